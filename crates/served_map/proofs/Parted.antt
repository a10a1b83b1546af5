-- A list cut at a key.
use Rattle.std.proofs.Common.{◌≡◌, ℕ, true, false, cond, List, [], ◌∷◌, ◌++◌, Option, Some, None, refl, sym, ap, ap₂, ◌∙◌}
use Rattle.std.proofs.lemmas.Cmp.{tied_itself}
use Rattle.std.proofs.lemmas.Option.{none-some}
use Rattle.std.specs.Cmp.{nat_cmp_total}
use Rattle.std.specs.List.{cons_option}
use Rattle.std.specs.Option.{option_map, option_or}
use Rattle.std.specs.Ordering.{nat_cmp, is_eq}
use Rattle.std.specs.declared.cmp.Ordering.TheVariants.{Less, Greater}
use Rattle.map_model.specs.Entries.{AllAbove, AllBelow, AllKeys, IsIncreasing, above, below, lookup}
use Rattle.map_model.proofs.Keys.{above_all, around, below_all, lesser}
use Rattle.map_model.proofs.Lookups.{first_found, lookup-above_greater, lookup-all_greater, lookup-all_less, lookup-append, lookup-around_equal, lookup-around_greater, lookup-around_less, lookup-below_less, lookup-tail, lookup_left, lookup_middle, lookup_right, option_or-none}
use Rattle.map_model.proofs.NatKeys.{nat_exact}
use Rattle.map_model.proofs.Splits.{AllKeys-above, AllKeys-below}

-- the entries of lesser keys, what is found at a key, and the entries of greater keys
pub record IsParted {V : Type 0} (m : List (ℕ × V)) (key : ℕ) (low : List (ℕ × V)) (found : Option V) (high : List (ℕ × V)) : Type 0 where
  pub lower : AllBelow nat_cmp low key
  pub upper : AllAbove nat_cmp high key
  pub at_less : (q : ℕ) → nat_cmp q key ≡ Less → lookup nat_cmp m q ≡ lookup nat_cmp low q
  pub at_key : lookup nat_cmp m key ≡ found
  pub at_more : (q : ℕ) → nat_cmp q key ≡ Greater → lookup nat_cmp m q ≡ lookup nat_cmp high q

-- at any key
pub parted_at : {V : Type 0} (m : List (ℕ × V)) (key : ℕ) → IsParted m key (below nat_cmp m key) (lookup nat_cmp m key) (above nat_cmp m key)
parted_at m key = record {
  lower = AllKeys-below nat_cmp m key;
  upper = AllKeys-above nat_cmp_total m key;
  at_less = λ q is. sym (lookup-below_less nat_exact m key q is);
  at_key = refl;
  at_more = λ q is. sym (lookup-above_greater nat_exact m key q is);
}

-- at an entry
pub parted_around : {V : Type 0} (l : List (ℕ × V)) (key : ℕ) (val : V) (r : List (ℕ × V)) → IsIncreasing nat_cmp (l ++ (key, val) ∷ r) → IsParted (l ++ (key, val) ∷ r) key l (Some val) r
parted_around l key val r s =
    let sides = around nat_cmp l key val r s in
    record {
      lower = sides.lower;
      upper = sides.upper;
      at_less = λ q is. lookup_left nat_cmp_total l key val r q s is;
      at_key = lookup_middle nat_cmp_total l key val r key s (tied_itself nat_cmp_total key);
      at_more = λ q is. lookup_right nat_cmp_total l key val r q s is;
    }

pub parted_first : {V : Type 0} (e : ℕ × V) (m : List (ℕ × V)) → IsIncreasing nat_cmp (e ∷ m) → IsParted (e ∷ m) e.0 [] (Some e.1) m
parted_first e m s = parted_around [] e.0 e.1 m s

-- at a key that is less than all
pub parted_before : {V : Type 0} (m : List (ℕ × V)) (key : ℕ) → AllAbove nat_cmp m key → IsParted m key [] None m
parted_before m key all = record {
  lower = tt;
  upper = all;
  at_less = λ q is. lookup-all_greater nat_cmp_total m q (below_all nat_cmp_total q key m is all);
  at_key = lookup-all_greater nat_cmp_total m key all;
  at_more = λ q is. refl;
}

-- two lists and what is between them
pub parted_joined : {V : Type 0} (l : List (ℕ × V)) (key : ℕ) (found : Option V) (r : List (ℕ × V)) → AllBelow nat_cmp l key → AllAbove nat_cmp r key → IsParted (l ++ cons_option (option_map (λ val. (key, val)) found) r) key l found r
parted_joined l key (Some val) r lower upper = record {
  lower = lower;
  upper = upper;
  at_less = λ q is. lookup-around_less nat_cmp_total l key val r q upper is;
  at_key = lookup-around_equal nat_cmp_total l key val r key lower (tied_itself nat_cmp_total key);
  at_more = λ q is. lookup-around_greater nat_cmp_total l key val r q lower is;
}
parted_joined l key None r lower upper = record {
  lower = lower;
  upper = upper;
  at_less = λ q is. lookup-append nat_cmp l r q ∙ ap (option_or (lookup nat_cmp l q)) (lookup-all_greater nat_cmp_total r q (below_all nat_cmp_total q key r is upper)) ∙ option_or-none (lookup nat_cmp l q);
  at_key = lookup-append nat_cmp l r key ∙ ap₂ option_or (lookup-all_less nat_cmp_total l key lower) (lookup-all_greater nat_cmp_total r key upper);
  at_more = λ q is. lookup-append nat_cmp l r q ∙ ap (λ o. option_or o (lookup nat_cmp r q)) (lookup-all_less nat_cmp_total l q (above_all nat_cmp_total q key l (lesser nat_cmp_total q key is) lower));
}

-- what holds of each key that is found holds of all keys
pub AllKeys-found : {V : Type 0} (P : ℕ → Type 0) (m : List (ℕ × V)) → IsIncreasing nat_cmp m → ((q : ℕ) (val : V) → lookup nat_cmp m q ≡ Some val → P q) → AllKeys P m
AllKeys-found P [] s h = tt
AllKeys-found P (e ∷ m) s h = (
  h e.0 e.1 (first_found nat_cmp_total e m),
  AllKeys-found P m s.1 (λ q val is. h q val (
      elim (is_eq (nat_cmp e.0 q)) as (λ b. is_eq (nat_cmp e.0 q) ≡ b → cond b (Some e.1) (lookup nat_cmp m q) ≡ Some val) [
        | true ↦ λ same. absurd (none-some val (sym (lookup-tail nat_cmp_total e m q s ∙ ap (λ b. cond b None (lookup nat_cmp (e ∷ m) q)) same) ∙ is))
        | false ↦ λ _. is
      ] refl)),
)
