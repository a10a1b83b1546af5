-- Maps that are changed by outcomes of keys.
use Rattle.std.proofs.Common.{◌≡◌, ℕ, ◌+◌, ◌<◌, true, false, cond, List, [], ◌∷◌, ◌++◌, Option, Some, None, unwrap_or, length, take, drop, get_or, append_assoc, refl, sym, ap, ap₂, subst, ◌∙◌, arith}
use Rattle.std.proofs.lemmas.Cmp.{tied_itself}
use Rattle.std.proofs.lemmas.List.{take-append-drop, take_more}
use Rattle.std.proofs.lemmas.Option.{none-some}
use Rattle.std.specs.Cmp.{nat_cmp_total}
use Rattle.std.specs.List.{cons_option}
use Rattle.std.specs.Option.{option_map}
use Rattle.std.specs.Ordering.{nat_cmp, is_eq}
use Rattle.std.specs.declared.cmp.Ordering.TheVariants.{Less, Greater}
use Rattle.map_model.specs.Entries.{AllAbove, AllBelow, IsIncreasing, above, below, drop_key, lookup, set}
use Rattle.map_model.specs.Operations.{del}
use Rattle.map_model.specs.SetOperations.{union}
use Rattle.map_model.proofs.Cuts.{length-around}
use Rattle.map_model.proofs.Keys.{IsAround, IsIncreasing-around, IsIncreasing-back, IsIncreasing-closed, IsIncreasing-front, above_all, below_all, by_order, greater, lesser}
use Rattle.map_model.proofs.Lookups.{lookup-all_greater, lookup-all_less, lookup-set}
use Rattle.map_model.proofs.NatKeys.{nat_exact}
use Rattle.map_model.proofs.Operations.{lookup-step}
use Rattle.map_model.proofs.Splits.{IsIncreasing-drop_key, IsIncreasing-set}
use Rattle.map_model.proofs.Unions.{IsIncreasing-union, lookup-union, united}
use Rattle.op_runs.specs.declared.outcome.Outcome.{Outcome}
use Rattle.op_runs.specs.declared.outcome.Outcome.TheVariants.{Nothing, Set, Gone, Added}
use Rattle.op_runs.specs.Outcomes.{left_by, sat_sum}
use Rattle.op_runs.specs.Runs.{IsChangedBy}
use Rattle.served_map.specs.Halves.{IsPutTogether}
use Rattle.served_map.proofs.Parted.{AllKeys-found, IsParted, parted_around, parted_at, parted_joined}

abbrev Outcomes : Type 0
Outcomes = List (ℕ × Outcome)

abbrev Entries : Type 0
Entries = List (ℕ × ℕ)

-- what an outcome that is found or not leaves
abbrev pub left : Option Outcome → Option ℕ → Option ℕ
left o value = left_by (unwrap_or o Nothing) value

-- no outcomes change nothing
pub changed_by_none : (m : Entries) → IsIncreasing nat_cmp m → IsChangedBy [] m m
changed_by_none m s = record { rises = s; value_at = λ q. refl }

-- a key that neither has
nowhere : (outcomes : Outcomes) (m changed : Entries) (q : ℕ) → IsChangedBy outcomes m changed → lookup nat_cmp outcomes q ≡ None → lookup nat_cmp m q ≡ None → lookup nat_cmp changed q ≡ None
nowhere outcomes m changed q by no_outcome no_value = by.value_at q ∙ ap₂ left no_outcome no_value

-- ---- keys stay on their side

not_less_than_all : {V : Type 0} (m : List (ℕ × V)) (q key : ℕ) → AllAbove nat_cmp m key → nat_cmp q key ≡ Less → lookup nat_cmp m q ≡ None
not_less_than_all m q key all is = lookup-all_greater nat_cmp_total m q (below_all nat_cmp_total q key m is all)

not_more_than_all : {V : Type 0} (m : List (ℕ × V)) (q key : ℕ) → AllBelow nat_cmp m key → nat_cmp q key ≡ Greater → lookup nat_cmp m q ≡ None
not_more_than_all m q key all is = lookup-all_less nat_cmp_total m q (above_all nat_cmp_total q key m (lesser nat_cmp_total q key is) all)

below_changed : (outcomes : Outcomes) (m changed : Entries) (key : ℕ) → IsChangedBy outcomes m changed → AllBelow nat_cmp outcomes key → AllBelow nat_cmp m key → AllBelow nat_cmp changed key
below_changed outcomes m changed key by low_outcomes low =
    AllKeys-found (λ q. nat_cmp q key ≡ Less) changed by.rises (λ q val is.
    by_order nat_cmp q key
    (λ less. less)
    (λ equal.
    let at : q ≡ key = nat_exact q key equal in
    absurd (none-some val (sym (nowhere outcomes m changed key by (lookup-all_less nat_cmp_total outcomes key low_outcomes) (lookup-all_less nat_cmp_total m key low)) ∙ ap (lookup nat_cmp changed) (sym at) ∙ is)))
    (λ more. absurd (none-some val (sym (nowhere outcomes m changed q by (not_more_than_all outcomes q key low_outcomes more) (not_more_than_all m q key low more)) ∙ is))))

above_changed : (outcomes : Outcomes) (m changed : Entries) (key : ℕ) → IsChangedBy outcomes m changed → AllAbove nat_cmp outcomes key → AllAbove nat_cmp m key → AllAbove nat_cmp changed key
above_changed outcomes m changed key by high_outcomes high =
    AllKeys-found (λ q. nat_cmp key q ≡ Less) changed by.rises (λ q val is.
    by_order nat_cmp q key
    (λ less. absurd (none-some val (sym (nowhere outcomes m changed q by (not_less_than_all outcomes q key high_outcomes less) (not_less_than_all m q key high less)) ∙ is)))
    (λ equal.
    let at : q ≡ key = nat_exact q key equal in
    absurd (none-some val (sym (nowhere outcomes m changed key by (lookup-all_greater nat_cmp_total outcomes key high_outcomes) (lookup-all_greater nat_cmp_total m key high)) ∙ ap (lookup nat_cmp changed) (sym at) ∙ is)))
    (λ more. lesser nat_cmp_total q key more))

-- ---- halves

joined_rises : (l : Entries) (key : ℕ) (found : Option ℕ) (r : Entries) → IsAround nat_cmp l key r → IsIncreasing nat_cmp (l ++ cons_option (option_map (λ val. (key, val)) found) r)
joined_rises l key (Some val) r sides = IsIncreasing-around nat_cmp_total l key val r sides
joined_rises l key None r sides = IsIncreasing-closed nat_cmp_total l key r sides

module _ (outcomes : Outcomes) (m : Entries) (key : ℕ) (low_outcomes : Outcomes) (outcome : Option Outcome) (high_outcomes : Outcomes) (low : Entries) (found : Option ℕ) (high : Entries) where
  abbrev here : Option ℕ
  here = left outcome found

  -- halves on the two sides of a key
  pub halves_at : IsParted outcomes key low_outcomes outcome high_outcomes → IsParted m key low found high → IsPutTogether outcomes m low_outcomes low (option_map (λ val. (key, val)) here) high_outcomes high
  halves_at cut map_cut = record {
    joined = λ l r by_low by_high.
        let lower = below_changed low_outcomes low l key by_low cut.lower map_cut.lower in
        let upper = above_changed high_outcomes high r key by_high cut.upper map_cut.upper in
        let whole = parted_joined l key here r lower upper in
        record {
          rises = joined_rises l key here r (record { left = by_low.rises; right = by_high.rises; lower = lower; upper = upper });
          value_at = λ q.
              by_order nat_cmp q key
              (λ less. whole.at_less q less ∙ by_low.value_at q ∙ ap₂ left (sym (cut.at_less q less)) (sym (map_cut.at_less q less)))
              (λ equal. subst (λ k. lookup nat_cmp (l ++ cons_option (option_map (λ val. (key, val)) here) r) k ≡ left (lookup nat_cmp outcomes k) (lookup nat_cmp m k)) (sym (nat_exact q key equal)) (whole.at_key ∙ sym (ap₂ left cut.at_key map_cut.at_key)))
              (λ more. whole.at_more q more ∙ by_high.value_at q ∙ ap₂ left (sym (cut.at_more q more)) (sym (map_cut.at_more q more)));
        };
  }

-- ---- one after another

-- one more outcome, of a greater key
pub one_more : (outcomes : Outcomes) (e : ℕ × Outcome) (m changed after : Entries) → IsIncreasing nat_cmp (outcomes ++ e ∷ []) → IsChangedBy outcomes m changed → IsChangedBy (e ∷ []) changed after → IsChangedBy (outcomes ++ e ∷ []) m after
one_more outcomes e m changed after s first then_one =
    let cut = parted_around outcomes e.0 e.1 [] s in
    record {
      rises = then_one.rises;
      value_at = λ q.
          then_one.value_at q ∙ ap (left (lookup nat_cmp (e ∷ []) q)) (first.value_at q)
          ∙ by_order nat_cmp q e.0
          (λ less. ap₂ (λ o p. left (cond (is_eq o) (Some e.1) None) (left p (lookup nat_cmp m q))) (greater nat_cmp_total q e.0 less) (sym (cut.at_less q less)))
          (λ equal. subst (λ k. left (lookup nat_cmp (e ∷ []) k) (left (lookup nat_cmp outcomes k) (lookup nat_cmp m k)) ≡ left (lookup nat_cmp (outcomes ++ e ∷ []) k) (lookup nat_cmp m k)) (sym (nat_exact q e.0 equal))
          (ap₂ (λ o p. left (cond (is_eq o) (Some e.1) None) (left p (lookup nat_cmp m e.0))) (tied_itself nat_cmp_total e.0) (lookup-all_less nat_cmp_total outcomes e.0 cut.lower) ∙ ap (λ o. left o (lookup nat_cmp m e.0)) (sym cut.at_key)))
          (λ more. ap₂ (λ o p. left (cond (is_eq o) (Some e.1) None) (left p (lookup nat_cmp m q))) (lesser nat_cmp_total q e.0 more) (not_more_than_all outcomes q e.0 cut.lower more) ∙ ap (λ o. left o (lookup nat_cmp m q)) (sym (cut.at_more q more)));
    }

-- one more of a list
pub one_more_at : (outcomes : Outcomes) (i : ℕ) (d : ℕ × Outcome) (m changed after : Entries) → IsIncreasing nat_cmp outcomes → i < length outcomes → IsChangedBy (take i outcomes) m changed → IsChangedBy (get_or outcomes i d ∷ []) changed after → IsChangedBy (take (i + 1) outcomes) m after
one_more_at outcomes i d m changed after s lt first then_one =
    let more = take_more outcomes i d lt in
    let rises : IsIncreasing nat_cmp (take (i + 1) outcomes) = IsIncreasing-front nat_cmp (take (i + 1) outcomes) (drop (i + 1) outcomes) (subst (IsIncreasing nat_cmp) (sym (take-append-drop (i + 1) outcomes)) s) in
    subst (λ l. IsChangedBy l m after) (sym more) (one_more (take i outcomes) (get_or outcomes i d) m changed after (subst (IsIncreasing nat_cmp) more rises) first then_one)

-- ---- one outcome

pub nothing_done : (m : Entries) (key : ℕ) → IsIncreasing nat_cmp m → IsChangedBy ((key, Nothing) ∷ []) m m
nothing_done m key s = record {
  rises = s;
  value_at = λ q. elim (is_eq (nat_cmp key q)) as (λ b. lookup nat_cmp m q ≡ left (cond b (Some Nothing) None) (lookup nat_cmp m q)) [ true ↦ refl | false ↦ refl ];
}

pub set_done : (m : Entries) (key val : ℕ) → IsIncreasing nat_cmp m → IsChangedBy ((key, Set val) ∷ []) m (set nat_cmp m key val)
set_done m key val s = record {
  rises = IsIncreasing-set nat_cmp_total m key val s;
  value_at = λ q.
      lookup-set nat_cmp_total nat_exact m key val q
      ∙ elim (is_eq (nat_cmp key q)) as (λ b. cond b (Some val) (lookup nat_cmp m q) ≡ left (cond b (Some (Set val)) None) (lookup nat_cmp m q)) [ true ↦ refl | false ↦ refl ];
}

pub gone_done : (m : Entries) (key : ℕ) → IsIncreasing nat_cmp m → IsChangedBy ((key, Gone) ∷ []) m (drop_key nat_cmp m key)
gone_done m key s = record {
  rises = IsIncreasing-drop_key nat_cmp m key s;
  value_at = λ q.
      lookup-step nat_cmp_total nat_exact m (del key) q
      ∙ elim (is_eq (nat_cmp key q)) as (λ b. cond b None (lookup nat_cmp m q) ≡ left (cond b (Some Gone) None) (lookup nat_cmp m q)) [ true ↦ refl | false ↦ refl ];
}

summed : (old : Option ℕ) (val : ℕ) → united sat_sum old (Some val) ≡ left_by (Added val) old
summed None val = refl
summed (Some old) val = refl

pub added_done : (m : Entries) (key val : ℕ) → IsIncreasing nat_cmp m → IsChangedBy ((key, Added val) ∷ []) m (union nat_cmp sat_sum m ((key, val) ∷ []))
added_done m key val s = record {
  rises = IsIncreasing-union nat_cmp_total sat_sum m ((key, val) ∷ []) s;
  value_at = λ q.
      lookup-union nat_cmp_total nat_exact sat_sum m ((key, val) ∷ []) q (tt, tt)
      ∙ elim (is_eq (nat_cmp key q)) as (λ b. united sat_sum (lookup nat_cmp m q) (cond b (Some val) None) ≡ left (cond b (Some (Added val)) None) (lookup nat_cmp m q)) [ true ↦ summed (lookup nat_cmp m q) val | false ↦ refl ];
}

-- ---- two lists merged

-- what is changed of the rest, behind what is there, is what is changed of all
abbrev pub Continues : Outcomes → Entries → Entries → Outcomes → Entries → Type 0
Continues outcomes m there rest_outcomes rest = (changed : Entries) → IsChangedBy rest_outcomes rest changed → IsChangedBy outcomes m (there ++ changed)

appended : (there : Entries) (o : Option (ℕ × ℕ)) (changed : Entries) → there ++ cons_option o changed ≡ (there ++ cons_option o []) ++ changed
appended there (Some e) changed = sym (append_assoc there (e ∷ []) changed)
appended there None changed = sym (append_assoc there [] changed)

-- what is found at a key less than all that are left goes behind what is there
pub one_merged : (outcomes : Outcomes) (m there : Entries) (rest_outcomes : Outcomes) (rest : Entries) (key : ℕ) (outcome : Option Outcome) (later : Outcomes) (found : Option ℕ) (others : Entries) → Continues outcomes m there rest_outcomes rest → IsParted rest_outcomes key [] outcome later → IsParted rest key [] found others → Continues outcomes m (there ++ cons_option (option_map (λ val. (key, val)) (left outcome found)) []) later others
one_merged outcomes m there rest_outcomes rest key outcome later found others so_far cut map_cut changed by =
    let behind : Entries = cons_option (option_map (λ val. (key, val)) (left outcome found)) changed in
    subst (λ l. IsChangedBy outcomes m l) (appended there (option_map (λ val. (key, val)) (left outcome found)) changed)
    (so_far behind ((halves_at rest_outcomes rest key [] outcome later [] found others cut map_cut).joined [] changed (changed_by_none [] tt) by))

-- ---- what is known of a call

pub set_given : (m changed : Entries) (key val : ℕ) (outcome : Outcome) → outcome ≡ Set val → IsIncreasing nat_cmp m → changed ≡ set nat_cmp m key val → IsChangedBy ((key, outcome) ∷ []) m changed
set_given m changed key val outcome is s changed_is = rw (is, changed_is) (set_done m key val s)

pub gone_given : (m changed : Entries) (key : ℕ) (outcome : Outcome) → outcome ≡ Gone → IsIncreasing nat_cmp m → changed ≡ drop_key nat_cmp m key → IsChangedBy ((key, outcome) ∷ []) m changed
gone_given m changed key outcome is s changed_is = rw (is, changed_is) (gone_done m key s)

pub added_given : (m changed : Entries) (key val : ℕ) (outcome : Outcome) → outcome ≡ Added val → IsIncreasing nat_cmp m → changed ≡ union nat_cmp sat_sum m ((key, val) ∷ []) → IsChangedBy ((key, outcome) ∷ []) m changed
added_given m changed key val outcome is s changed_is = rw (is, changed_is) (added_done m key val s)

-- outcomes cut at one of them, and a map at its key
pub cut_halves : (outcomes : Outcomes) (m : Entries) (front : Outcomes) (middle : ℕ × Outcome) (back : Outcomes) (low : Entries) (found : Option ℕ) (entry : Option (ℕ × ℕ)) (high : Entries) → outcomes ≡ front ++ middle ∷ back → IsIncreasing nat_cmp outcomes → low ≡ below nat_cmp m middle.0 → found ≡ lookup nat_cmp m middle.0 → high ≡ above nat_cmp m middle.0 → entry ≡ option_map (λ val. (middle.0, val)) (left_by middle.1 found) → IsPutTogether outcomes m front low entry back high × IsIncreasing nat_cmp front × IsIncreasing nat_cmp back × (length front < length outcomes) × (length back < length outcomes)
cut_halves outcomes m front middle back low found entry high is s low_is found_is high_is entry_is =
    let rises : IsIncreasing nat_cmp (front ++ middle ∷ back) = subst (IsIncreasing nat_cmp) is s in
    let whole = ap length is ∙ length-around front middle back in
    let halves : IsPutTogether (front ++ middle ∷ back) m front (below nat_cmp m middle.0) (option_map (λ val. (middle.0, val)) (left_by middle.1 (lookup nat_cmp m middle.0))) back (above nat_cmp m middle.0) =
    halves_at (front ++ middle ∷ back) m middle.0 front (Some middle.1) back (below nat_cmp m middle.0) (lookup nat_cmp m middle.0) (above nat_cmp m middle.0) (parted_around front middle.0 middle.1 back rises) (parted_at m middle.0) in
    let entry_at : entry ≡ option_map (λ val. (middle.0, val)) (left_by middle.1 (lookup nat_cmp m middle.0)) = entry_is ∙ ap (λ o. option_map (λ val. (middle.0, val)) (left_by middle.1 o)) found_is in
    (rw (is, low_is, high_is, entry_at) halves, IsIncreasing-front nat_cmp front (middle ∷ back) rises, (IsIncreasing-back nat_cmp front (middle ∷ back) rises).1, omega (arith, whole), omega (arith, whole))
