-- Keys without values, sorted and deduplicated.
use Rattle.std.proofs.Common.{◌≡◌, ◌∙◌, ◌∷◌, ◌||◌, [], Bool, true, false, cond, List, None, Some, refl, sym, ap}
use Rattle.std.specs.declared.cmp.Ordering.{Ordering}
use Rattle.std.specs.Cmp.{IsTotalOrder}
use Rattle.std.specs.List.{dedup, list_any}
use Rattle.std.specs.List.Sorted.{IsPermutation, IsSortedByKey}
use Rattle.std.specs.Option.{option_or}
use Rattle.std.specs.Ordering.{is_eq}
use Rattle.std.proofs.lemmas.List.Sorted.{list_any-IsPermutation}
use Rattle.map_model.specs.Order.{IsExact}
use Rattle.map_model.specs.Entries.{lookup}
use Rattle.map_model.specs.Operations.{build, last_at}
use Rattle.map_model.proofs.Lookups.{option_or-none}
use Rattle.map_model.proofs.Operations.{build-is, last_at-cons}
use Rattle.map_model.proofs.Sorted.{IsIncreasing-dedup, lookup-dedup}

module _ {K : Type 0} {order : K → K → Ordering} (total : IsTotalOrder order) (exact : IsExact order) where
  -- of a key without value the last entry is as good as the first
  last-key : (m : List (K × Unit {0})) (q : K) → last_at order m q ≡ lookup order m q
  last-key [] q = refl
  last-key (e ∷ m) q =
      last_at-cons order e m q
      ∙ ap (λ o. option_or o (cond (is_eq (order e.0 q)) (Some e.1) None)) (last-key m q)
      ∙ elim (is_eq (order e.0 q)) as (λ b. option_or (lookup order m q) (cond b (Some e.1) None) ≡ cond b (Some e.1) (lookup order m q)) [
        | true ↦ elim (lookup order m q) as (λ o. option_or o (Some e.1) ≡ Some e.1) [ None ↦ refl | Some x ↦ refl ]
        | false ↦ option_or-none (lookup order m q)
      ]

  abbrev alike : K × Unit {0} → K × Unit {0} → Bool
  alike x y = is_eq (order x.0 y.0)

  -- without values only whether a key is there counts
  lookup-any : (m : List (K × Unit {0})) (q : K) → lookup order m q ≡ cond (list_any (λ e. is_eq (order e.0 q)) m) (Some tt) None
  lookup-any [] q = refl
  lookup-any (e ∷ m) q =
      ap (λ o. cond (is_eq (order e.0 q)) (Some e.1) o) (lookup-any m q)
      ∙ elim (is_eq (order e.0 q)) as (λ b. cond b (Some e.1) (cond (list_any (λ x. is_eq (order x.0 q)) m) (Some tt) None) ≡ cond (b || list_any (λ x. is_eq (order x.0 q)) m) (Some tt) None) [ true ↦ refl | false ↦ refl ]

  -- so keys in another order have the same
  lookup-same : (keys sorted : List (K × Unit {0})) → IsPermutation keys sorted → (q : K) → lookup order sorted q ≡ lookup order keys q
  lookup-same keys sorted same q =
      lookup-any sorted q
      ∙ ap (λ b. cond b (Some tt) None) (sym (list_any-IsPermutation (λ (e : K × Unit {0}). is_eq (order e.0 q)) keys sorted same))
      ∙ sym (lookup-any keys q)

  -- keys sorted and deduplicated are the set that they make
  pub sorted_set : (keys sorted : List (K × Unit {0})) → IsSortedByKey (λ (e : K × Unit {0}). e.0) order sorted → IsPermutation keys sorted → dedup alike sorted ≡ build order keys
  sorted_set keys sorted up same =
      sym (build-is total exact keys (dedup alike sorted) (IsIncreasing-dedup alike (λ x y. refl) total sorted up) (λ q.
      lookup-dedup alike (λ x y. refl) exact sorted q ∙ lookup-same keys sorted same q ∙ sym (last-key keys q)))
