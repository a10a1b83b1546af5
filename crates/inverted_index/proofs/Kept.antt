-- Entries of a map that a function keeps, with the values that it gives; and entries whose values are replaced.
use Rattle.std.proofs.Common.{◌≡◌, true, false, cond, List, [], ◌∷◌, Option, Some, None, refl, ap, ◌∙◌, map}
use Rattle.std.specs.declared.cmp.Ordering.{Ordering}
use Rattle.std.specs.declared.cmp.Ordering.TheVariants.{Less, Equal, Greater}
use Rattle.std.specs.Ordering.{is_eq}
use Rattle.std.specs.Cmp.{IsTotalOrder}
use Rattle.std.specs.List.{filter_map, cons_option}
use Rattle.std.specs.Option.{option_map, option_and_then}
use Rattle.map_model.specs.Order.{IsExact}
use Rattle.map_model.specs.Entries.{AllKeys, IsIncreasing, lookup}
use Rattle.map_model.proofs.Lookups.{lookup-behind}

module _ {K V W : Type 0} (h : K × V → Option W) where
  abbrev pub kept : List (K × V) → List (K × W)
  kept m = filter_map (λ e. option_map (λ w. (e.0, w)) (h e)) m

  pub AllKeys-kept : (P : K → Type 0) (m : List (K × V)) → AllKeys P m → AllKeys P (kept m)
  AllKeys-kept P [] a = tt
  AllKeys-kept P (e ∷ m) a =
      elim (h e) as (λ o. AllKeys P (cons_option (option_map (λ w. (e.0, w)) o) (kept m))) [ None ↦ AllKeys-kept P m a.1 | Some w ↦ (a.0, AllKeys-kept P m a.1) ]

  pub IsIncreasing-kept : (order : K → K → Ordering) (m : List (K × V)) → IsIncreasing order m → IsIncreasing order (kept m)
  IsIncreasing-kept order [] s = tt
  IsIncreasing-kept order (e ∷ m) s =
      elim (h e) as (λ o. IsIncreasing order (cons_option (option_map (λ w. (e.0, w)) o) (kept m))) [ None ↦ IsIncreasing-kept order m s.1 | Some w ↦ (AllKeys-kept (λ k. order e.0 k ≡ Less) m s.0, IsIncreasing-kept order m s.1) ]

module _ {K V W : Type 0} {order : K → K → Ordering} (total : IsTotalOrder order) (exact : IsExact order) (h : K × V → Option W) where
  pub lookup-kept : (m : List (K × V)) (q : K) → IsIncreasing order m → lookup order (kept h m) q ≡ option_and_then (λ v. h (q, v)) (lookup order m q)
  lookup-kept [] q s = refl
  lookup-kept (e ∷ m) q s =
      let rest = lookup-kept m q s.1 in
      elim (order e.0 q) as (λ o. order e.0 q ≡ o → lookup order (cons_option (option_map (λ w. (e.0, w)) (h e)) (kept h m)) q ≡ option_and_then (λ v. h (q, v)) (cond (is_eq o) (Some e.1) (lookup order m q))) [
        | Less ↦ λ is. elim (h e) as (λ o. lookup order (cons_option (option_map (λ w. (e.0, w)) o) (kept h m)) q ≡ option_and_then (λ v. h (q, v)) (lookup order m q)) [ None ↦ rest | Some w ↦ rw is rest ]
        | Equal ↦ λ is. elim (h e) as (λ o. lookup order (cons_option (option_map (λ w. (e.0, w)) o) (kept h m)) q ≡ o) [
          | None ↦ rest ∙ ap (option_and_then (λ v. h (q, v))) (lookup-behind total e m q s is)
          | Some w ↦ rw is refl
        ] ∙ ap (λ k. h (k, e.1)) (exact e.0 q is)
        | Greater ↦ λ is. elim (h e) as (λ o. lookup order (cons_option (option_map (λ w. (e.0, w)) o) (kept h m)) q ≡ option_and_then (λ v. h (q, v)) (lookup order m q)) [ None ↦ rest | Some w ↦ rw is rest ]
      ] refl

module _ {K V W : Type 0} (g : V → W) where
  abbrev pub revalued : List (K × V) → List (K × W)
  revalued m = map (λ e. (e.0, g e.1)) m

  pub AllKeys-revalued : (P : K → Type 0) (m : List (K × V)) → AllKeys P m → AllKeys P (revalued m)
  AllKeys-revalued P [] a = tt
  AllKeys-revalued P (e ∷ m) a = (a.0, AllKeys-revalued P m a.1)

  pub IsIncreasing-revalued : (order : K → K → Ordering) (m : List (K × V)) → IsIncreasing order m → IsIncreasing order (revalued m)
  IsIncreasing-revalued order [] s = tt
  IsIncreasing-revalued order (e ∷ m) s = (AllKeys-revalued (λ k. order e.0 k ≡ Less) m s.0, IsIncreasing-revalued order m s.1)

  pub lookup-revalued : (order : K → K → Ordering) (m : List (K × V)) (q : K) → lookup order (revalued m) q ≡ option_map g (lookup order m q)
  lookup-revalued order [] q = refl
  lookup-revalued order (e ∷ m) q =
      elim (is_eq (order e.0 q)) as (λ b. cond b (Some (g e.1)) (lookup order (revalued m) q) ≡ option_map g (cond b (Some e.1) (lookup order m q))) [ true ↦ refl | false ↦ lookup-revalued order m q ]
