-- How many keys are at most a key.
use Rattle.std.proofs.Common.{◌≡◌, ℕ, ◌+◌, ◌<◌, ◌≤◌, Bool, cond, List, [], ◌∷◌, length, Option, Some, None, refl, sym, ap, ◌∙◌, arith}
use Rattle.std.specs.declared.cmp.Ordering.{Ordering}
use Rattle.std.specs.declared.cmp.Ordering.TheVariants.{Less, Equal, Greater}
use Rattle.std.specs.Prelude.{IfSome}
use Rattle.std.specs.Ordering.{is_eq, is_le, is_lt}
use Rattle.std.specs.Cmp.{IsTotalOrder}
use Rattle.std.specs.List.{slice_get}
use Rattle.std.proofs.lemmas.Option.{slice_get_past}
use Rattle.map_model.specs.Entries.{AllKeys, IsIncreasing, below}
use Rattle.map_model.specs.Parts.{left_of, rank}
use Rattle.map_model.proofs.Around.{filter-alike}
use Rattle.map_model.proofs.Keys.{AllKeys-map, below_all, greater, lesser}
use Rattle.map_model.proofs.Places.{entry_there}

module _ {K V : Type 0} {order : K → K → Ordering} (total : IsTotalOrder order) where
  -- 1 where the entry, if there is one, has the key
  abbrev hit : Option (K × V) → K → ℕ
  hit None q = 0
  hit (Some e) q = cond (is_eq (order e.0 q)) 1 0

  behind_equal : (e : K × V) (m : List (K × V)) (q : K) → IsIncreasing order (e ∷ m) → order e.0 q ≡ Equal → AllKeys (λ k. order k q ≡ Greater) m
  behind_equal e m q s is = AllKeys-map (λ k. order e.0 k ≡ Less) (λ k. order k q ≡ Greater) (λ k h. greater total q k (sym (total.congr e.0 q k is) ∙ h)) m s.0

  behind_greater : (e : K × V) (m : List (K × V)) (q : K) → IsIncreasing order (e ∷ m) → order e.0 q ≡ Greater → AllKeys (λ k. order k q ≡ Greater) m
  behind_greater e m q s is = AllKeys-map (λ k. order q k ≡ Less) (λ k. order k q ≡ Greater) (λ k h. greater total q k h) m (below_all total q e.0 m (lesser total e.0 q is) s.0)

  counted : (m : List (K × V)) (q : K) → IsIncreasing order m → length (left_of order m q) ≡ rank order m q + hit (slice_get m (rank order m q)) q
  counted [] q s = refl
  counted (e ∷ m) q s =
      elim (order e.0 q) as (λ o. order e.0 q ≡ o → length (cond (is_le o) (e ∷ left_of order m q) (left_of order m q)) ≡ length (cond (is_lt o) (e ∷ below order m q) (below order m q)) + hit (slice_get (e ∷ m) (length (cond (is_lt o) (e ∷ below order m q) (below order m q)))) q) [
        | Less ↦ λ _. let more = counted m q s.1 in omega (arith, more)
        | Equal ↦ λ is. let a = behind_equal e m q s is in rw (filter-alike order is_lt q Greater m a, filter-alike order is_le q Greater m a) (sym (ap (λ o. 0 + cond (is_eq o) 1 0) is))
        | Greater ↦ λ is. let a = behind_greater e m q s is in rw (filter-alike order is_lt q Greater m a, filter-alike order is_le q Greater m a) (sym (ap (λ o. 0 + cond (is_eq o) 1 0) is))
      ] refl

  -- where all keys are less
  pub count_past : (m : List (K × V)) (q : K) → IsIncreasing order m → length m ≤ rank order m q → length (left_of order m q) ≡ rank order m q
  count_past m q s past =
      let none : hit (slice_get m (rank order m q)) q ≡ 0 = ap (λ o. hit o q) (slice_get_past m (rank order m q) past) in
      omega (arith, counted m q s, none)

  -- where it is told whether the entry behind the lesser keys has the key
  pub count_told : (m : List (K × V)) (q : K) (i : ℕ) (b : Bool) → IsIncreasing order m → i ≡ rank order m q → i < length m → IfSome (slice_get m i) (λ e. b ≡ is_eq (order e.0 q)) → length (left_of order m q) ≡ i + cond b 1 0
  count_told m q i b s at inside told =
      let there : hit (slice_get m i) q ≡ cond b 1 0 =
      elim (slice_get m i) as (λ o. slice_get m i ≡ o → IfSome o (λ e. b ≡ is_eq (order e.0 q)) → hit o q ≡ cond b 1 0) [
        | None ↦ λ none _. absurd (entry_there m i inside none)
        | Some e ↦ λ _ is. ap (λ x. cond x 1 0) (sym is)
      ] refl told in
      counted m q s ∙ ap (λ n. n + hit (slice_get m n) q) (sym at) ∙ ap (λ n. i + n) there
