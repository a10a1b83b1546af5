-- Matches of questions that are put together.
use Rattle.std.proofs.Common.{◌≡◌, ℕ, ◌+◌, ◌-◌, ◌^◌, ◌≤◌, Bool, true, false, cond, min, List, [], ◌∷◌, Option, Some, None, map, refl, sym, ap, ap₂, ◌∙◌, subst, arith}
use Rattle.std.specs.declared.cmp.Ordering.TheVariants.{Less, Equal, Greater}
use Rattle.std.specs.List.{cons_option, filter}
use Rattle.std.specs.Option.{is_none, is_some, option_map, unwrap_or}
use Rattle.std.specs.Ordering.{is_eq, nat_cmp}
use Rattle.std.proofs.lemmas.Cmp.{nat_cmp_total}
use Rattle.std.proofs.lemmas.Option.{none-some, same_Some}
use Rattle.map_model.specs.Entries.{AllKeys, IsIncreasing, lookup}
use Rattle.map_model.specs.SetOperations.{difference, intersect, union}
use Rattle.map_model.proofs.Differences.{IsIncreasing-difference, lookup-difference}
use Rattle.map_model.proofs.Intersections.{IsIncreasing-intersect, lookup-intersect, of_both}
use Rattle.map_model.proofs.Lookups.{equal_lookups, lookup-behind}
use Rattle.map_model.proofs.NatKeys.{nat_exact}
use Rattle.map_model.proofs.Unions.{IsIncreasing-union, lookup-union, united}
use Rattle.inverted_index.specs.Matching.{both, either, matching, of_term, unless}
use Rattle.inverted_index.specs.Merging.{sat}
use Rattle.inverted_index.specs.Queries.{Document, has, having, weight_in}
use Rattle.inverted_index.specs.Ranks.{AreLow}
use Rattle.inverted_index.specs.Terms.{bytes_cmp}
use Rattle.inverted_index.proofs.Ranks.{low_fits}

-- ---- what is found in matches

-- the weight of a document that is there
abbrev at : {T : Type 0} → (ℕ × T → Option ℕ) → ℕ → Option T → Option ℕ
at weight q None = None
at weight q (Some t) = weight (q, t)

module _ {T : Type 0} (weight : ℕ × T → Option ℕ) where
  AllKeys-matching : (P : ℕ → Type 0) (ds : List (ℕ × T)) → AllKeys P ds → AllKeys P (matching weight ds)
  AllKeys-matching P [] p = tt
  AllKeys-matching P (d ∷ ds) p =
      elim (weight d) as (λ o. AllKeys P (cons_option (option_map (λ w. (d.0, w)) o) (matching weight ds))) [ None ↦ AllKeys-matching P ds p.1 | Some w ↦ (p.0, AllKeys-matching P ds p.1) ]

  pub IsIncreasing-matching : (ds : List (ℕ × T)) → IsIncreasing nat_cmp ds → IsIncreasing nat_cmp (matching weight ds)
  IsIncreasing-matching [] s = tt
  IsIncreasing-matching (d ∷ ds) s =
      elim (weight d) as (λ o. IsIncreasing nat_cmp (cons_option (option_map (λ w. (d.0, w)) o) (matching weight ds))) [ None ↦ IsIncreasing-matching ds s.1 | Some w ↦ (AllKeys-matching (λ k. nat_cmp d.0 k ≡ Less) ds s.0, IsIncreasing-matching ds s.1) ]

  lookup-matching : (ds : List (ℕ × T)) (q : ℕ) → IsIncreasing nat_cmp ds → lookup nat_cmp (matching weight ds) q ≡ at weight q (lookup nat_cmp ds q)
  lookup-matching [] q s = refl
  lookup-matching (d ∷ ds) q s =
      let rest = lookup-matching ds q s.1 in
      elim (nat_cmp d.0 q) as (λ o. nat_cmp d.0 q ≡ o → lookup nat_cmp (cons_option (option_map (λ w. (d.0, w)) (weight d)) (matching weight ds)) q ≡ at weight q (cond (is_eq o) (Some d.1) (lookup nat_cmp ds q))) [
        | Less ↦ λ is. elim (weight d) as (λ o. lookup nat_cmp (cons_option (option_map (λ w. (d.0, w)) o) (matching weight ds)) q ≡ at weight q (lookup nat_cmp ds q)) [ None ↦ rest | Some w ↦ rw is rest ]
        | Equal ↦ λ is.
            let here : weight d ≡ weight (q, d.1) = ap (λ k. weight (k, d.1)) (nat_exact d.0 q is) in
            elim (weight d) as (λ o. o ≡ weight (q, d.1) → lookup nat_cmp (cons_option (option_map (λ w. (d.0, w)) o) (matching weight ds)) q ≡ weight (q, d.1)) [
              | None ↦ λ none. rest ∙ ap (at weight q) (lookup-behind nat_cmp_total d ds q s is) ∙ none
              | Some w ↦ λ some. rw is some
            ] here
        | Greater ↦ λ is. elim (weight d) as (λ o. lookup nat_cmp (cons_option (option_map (λ w. (d.0, w)) o) (matching weight ds)) q ≡ at weight q (lookup nat_cmp ds q)) [ None ↦ rest | Some w ↦ rw is rest ]
      ] refl

-- a list that has at each number the weight that a question tells of the document
matched : {T : Type 0} (weight : ℕ × T → Option ℕ) (ds : List (ℕ × T)) (m : List (ℕ × ℕ)) → IsIncreasing nat_cmp ds → IsIncreasing nat_cmp m → ((q : ℕ) → lookup nat_cmp m q ≡ at weight q (lookup nat_cmp ds q)) → m ≡ matching weight ds
matched weight ds m s rises h = equal_lookups nat_cmp_total nat_exact m (matching weight ds) rises (IsIncreasing-matching weight ds s) (λ q. h q ∙ sym (lookup-matching weight ds q s))

-- ---- questions that are put together

module _ {T : Type 0} (f g : ℕ × T → Option ℕ) (ds : List (ℕ × T)) (a b : List (ℕ × ℕ)) (s : IsIncreasing nat_cmp ds) (first : a ≡ matching f ds) (second : b ≡ matching g ds) where
  first_at : (q : ℕ) → lookup nat_cmp a q ≡ at f q (lookup nat_cmp ds q)
  first_at q = ap (λ m. lookup nat_cmp m q) first ∙ lookup-matching f ds q s

  second_at : (q : ℕ) → lookup nat_cmp b q ≡ at g q (lookup nat_cmp ds q)
  second_at q = ap (λ m. lookup nat_cmp m q) second ∙ lookup-matching g ds q s

  rises : IsIncreasing nat_cmp a
  rises = let Up : List (ℕ × ℕ) → Type 0 = λ m. IsIncreasing nat_cmp m in subst Up (sym first) (IsIncreasing-matching f ds s)

  second_rises : IsIncreasing nat_cmp b
  second_rises = let Up : List (ℕ × ℕ) → Type 0 = λ m. IsIncreasing nat_cmp m in subst Up (sym second) (IsIncreasing-matching g ds s)

  pub both_match : intersect nat_cmp sat a b ≡ matching (λ d. both (f d) (g d)) ds
  both_match = matched (λ d. both (f d) (g d)) ds (intersect nat_cmp sat a b) s (IsIncreasing-intersect nat_cmp sat a b rises) (λ q.
      lookup-intersect nat_exact sat a b q ∙ ap₂ (of_both sat) (first_at q) (second_at q) ∙ there q (lookup nat_cmp ds q))
    where
      same : (o p : Option ℕ) → of_both sat o p ≡ both o p
      same None p = refl
      same (Some v) None = refl
      same (Some v) (Some w) = refl

      there : (q : ℕ) (o : Option T) → of_both sat (at f q o) (at g q o) ≡ at (λ d. both (f d) (g d)) q o
      there q None = refl
      there q (Some t) = same (f (q, t)) (g (q, t))

  pub either_matches : union nat_cmp sat a b ≡ matching (λ d. either (f d) (g d)) ds
  either_matches = matched (λ d. either (f d) (g d)) ds (union nat_cmp sat a b) s (IsIncreasing-union nat_cmp_total sat a b rises) (λ q.
      lookup-union nat_cmp_total nat_exact sat a b q second_rises ∙ ap₂ (united sat) (first_at q) (second_at q) ∙ there q (lookup nat_cmp ds q))
    where
      same : (o p : Option ℕ) → united sat o p ≡ either o p
      same None None = refl
      same None (Some w) = refl
      same (Some v) None = refl
      same (Some v) (Some w) = refl

      there : (q : ℕ) (o : Option T) → united sat (at f q o) (at g q o) ≡ at (λ d. either (f d) (g d)) q o
      there q None = refl
      there q (Some t) = same (f (q, t)) (g (q, t))

  pub first_alone_matches : difference nat_cmp a b ≡ matching (λ d. unless (f d) (g d)) ds
  first_alone_matches = matched (λ d. unless (f d) (g d)) ds (difference nat_cmp a b) s (IsIncreasing-difference nat_cmp a b rises) (λ q.
      lookup-difference nat_exact a b q ∙ ap₂ (λ o p. cond (is_none p) o None) (first_at q) (second_at q) ∙ there q (lookup nat_cmp ds q))
    where
      same : (o p : Option ℕ) → cond (is_none p) o None ≡ unless o p
      same o None = refl
      same o (Some w) = refl

      there : (q : ℕ) (o : Option T) → cond (is_none (at g q o)) (at f q o) None ≡ at (λ d. unless (f d) (g d)) q o
      there q None = refl
      there q (Some t) = same (f (q, t)) (g (q, t))

-- those that have a term
pub having-matching : (term : List ℕ) (ds : List Document) → having ds term ≡ matching (of_term term) ds
having-matching term [] = refl
having-matching term (d ∷ ds) =
    let rest = having-matching term ds in
    elim (lookup bytes_cmp d.1 term) as (λ o. lookup bytes_cmp d.1 term ≡ o → map (λ e. (e.0, weight_in e term)) (cond (is_some o) (d ∷ filter (has term) ds) (filter (has term) ds)) ≡ cons_option (option_map (λ w. (d.0, w)) o) (matching (of_term term) ds)) [
      | None ↦ λ _. rest
      | Some w ↦ λ is. ap₂ (λ v m. (d.0, v) ∷ m) (ap (λ o. unwrap_or o 0) is) rest
    ] refl

-- ---- weights of 64 bits

low_at : (m : List (ℕ × ℕ)) (q w : ℕ) → AreLow m → lookup nat_cmp m q ≡ Some w → w ≤ 2 ^ 64 - 1
low_at [] q w low is = absurd (none-some w is)
low_at (e ∷ m) q w low is =
    elim (is_eq (nat_cmp e.0 q)) as (λ t. cond t (Some e.1) (lookup nat_cmp m q) ≡ Some w → w ≤ 2 ^ 64 - 1) [
      | true ↦ λ h. let same : e.1 ≡ w = same_Some e.1 w h in omega (arith, same, low.0)
      | false ↦ λ h. low_at m q w low.1 h
    ] is

pub low_both : (a b : List (ℕ × ℕ)) → IsIncreasing nat_cmp a → AreLow (intersect nat_cmp sat a b)
low_both a b s = low_fits (intersect nat_cmp sat a b) (IsIncreasing-intersect nat_cmp sat a b s) (λ q w is. low (lookup nat_cmp a q) (lookup nat_cmp b q) w (sym (lookup-intersect nat_exact sat a b q) ∙ is))
  where
    low : (o p : Option ℕ) (w : ℕ) → of_both sat o p ≡ Some w → w ≤ 2 ^ 64 - 1
    low None p w is = absurd (none-some w is)
    low (Some u) None w is = absurd (none-some w is)
    low (Some u) (Some v) w is = let same : sat u v ≡ w = same_Some (sat u v) w is in omega (arith, same)

pub low_either : (a b : List (ℕ × ℕ)) → IsIncreasing nat_cmp a → IsIncreasing nat_cmp b → AreLow a → AreLow b → AreLow (union nat_cmp sat a b)
low_either a b s t first second = low_fits (union nat_cmp sat a b) (IsIncreasing-union nat_cmp_total sat a b s) (λ q w is.
    low (lookup nat_cmp a q) (lookup nat_cmp b q) w (λ h. low_at a q w first h) (λ h. low_at b q w second h) (sym (lookup-union nat_cmp_total nat_exact sat a b q t) ∙ is))
  where
    low : (o p : Option ℕ) (w : ℕ) → (o ≡ Some w → w ≤ 2 ^ 64 - 1) → (p ≡ Some w → w ≤ 2 ^ 64 - 1) → united sat o p ≡ Some w → w ≤ 2 ^ 64 - 1
    low None None w h k is = absurd (none-some w is)
    low None (Some v) w h k is = k is
    low (Some u) None w h k is = h is
    low (Some u) (Some v) w h k is = let same : sat u v ≡ w = same_Some (sat u v) w is in omega (arith, same)

pub low_unless : (a b : List (ℕ × ℕ)) → IsIncreasing nat_cmp a → AreLow a → AreLow (difference nat_cmp a b)
low_unless a b s first = low_fits (difference nat_cmp a b) (IsIncreasing-difference nat_cmp a b s) (λ q w is. low (is_none (lookup nat_cmp b q)) (lookup nat_cmp a q) w (λ h. low_at a q w first h) (sym (lookup-difference nat_exact a b q) ∙ is))
  where
    low : (t : Bool) (o : Option ℕ) (w : ℕ) → (o ≡ Some w → w ≤ 2 ^ 64 - 1) → cond t o None ≡ Some w → w ≤ 2 ^ 64 - 1
    low true o w h is = h is
    low false o w h is = absurd (none-some w is)
