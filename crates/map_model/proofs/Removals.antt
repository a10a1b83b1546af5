-- Removals as a difference with the entries that the keys name.
use Rattle.std.proofs.Common.{◌≡◌, Bool, true, false, cond, not, ◌||◌, List, [], ◌∷◌, ◌++◌, ℕ, ◌+◌, ◌<◌, length, take, get_or, Option, Some, None, is_none, refl, sym, ap, ◌∙◌}
use Rattle.std.specs.declared.cmp.Ordering.{Ordering}
use Rattle.std.specs.declared.cmp.Ordering.TheVariants.{Less, Equal, Greater}
use Rattle.std.specs.Ordering.{is_eq}
use Rattle.std.specs.Cmp.{IsTotalOrder}
use Rattle.std.specs.List.{filter_map, list_any, cons_option}
use Rattle.std.specs.Option.{option_map, option_or}
use Rattle.std.proofs.lemmas.List.{take_more}
use Rattle.std.proofs.lemmas.List.Elements.{filter_map-append}
use Rattle.std.proofs.lemmas.Option.{none-some}
use Rattle.map_model.specs.Order.{IsExact}
use Rattle.map_model.specs.Entries.{AllKeys, IsIncreasing, lookup}
use Rattle.map_model.specs.SetOperations.{difference}
use Rattle.map_model.specs.Operations.{after, build, dels, found_in, last_at}
use Rattle.map_model.proofs.Filters.{filter-same_keys}
use Rattle.map_model.proofs.Keys.{AllKeys-map, AllKeys-map₂}
use Rattle.map_model.proofs.Lookups.{first_found}
use Rattle.map_model.proofs.Operations.{last_at-cons, after_dels-filter, lookup-build}

-- the map has the key
abbrev HasKey : {K V : Type 0} → (K → K → Ordering) → List (K × V) → K → Type 0
HasKey {V} order m q = (v : V) × (lookup order m q ≡ Some v)

last_one : {V : Type 0} (x : Option V) (b r : Bool) (w : V) → is_none x ≡ not r → is_none (option_or x (cond b (Some w) None)) ≡ not (b || r)
last_one None true r w h = refl
last_one None false r w h = h
last_one (Some v) true r w h = refl
last_one (Some v) false r w h = h

module _ {K V : Type 0} {order : K → K → Ordering} (total : IsTotalOrder order) (exact : IsExact order) where
  -- each key of a map is found in it
  keys_found : (m : List (K × V)) → IsIncreasing order m → AllKeys (HasKey order m) m
  keys_found [] s = tt
  keys_found (e ∷ m) s =
      ((e.1, first_found total e m), AllKeys-map₂ (λ k. order e.0 k ≡ Less) (HasKey order m) (HasKey order (e ∷ m)) (λ k less found. (found.0, ap (λ o. cond (is_eq o) (Some e.1) (lookup order m k)) less ∙ found.1)) m s.0 (keys_found m s.1))

  -- of a key that the map has, an entry is found just where the keys have it
  found_where : (m : List (K × V)) (q : K) (v : V) → lookup order m q ≡ Some v → (keys : List K) → is_none (last_at order (found_in order m keys) q) ≡ not (list_any (λ k. is_eq (order k q)) keys)
  found_where m q v has [] = refl
  found_where m q v has (k ∷ keys) =
      let rest = found_where m q v has keys in
      elim (lookup order m k) as (λ o. lookup order m k ≡ o → is_none (last_at order (cons_option (option_map (λ w. (k, w)) o) (found_in order m keys)) q) ≡ not (is_eq (order k q) || list_any (λ d. is_eq (order d q)) keys)) [
        | None ↦ λ none. elim (order k q) as (λ o. order k q ≡ o → is_none (last_at order (found_in order m keys) q) ≡ not (is_eq o || list_any (λ d. is_eq (order d q)) keys)) [
          | Less ↦ λ _. rest
          | Equal ↦ λ is. absurd (none-some v (sym none ∙ ap (lookup order m) (exact k q is) ∙ has))
          | Greater ↦ λ _. rest
        ] refl
        | Some w ↦ λ _. ap is_none (last_at-cons order (k, w) (found_in order m keys) q) ∙ last_one (last_at order (found_in order m keys) q) (is_eq (order k q)) (list_any (λ d. is_eq (order d q)) keys) w rest
      ] refl

  -- removals are the difference with a map that has the last entry found of each key
  dels-difference : (m : List (K × V)) (keys : List K) (gone : List (K × V)) → IsIncreasing order m → ((q : K) → lookup order gone q ≡ last_at order (found_in order m keys) q) → difference order m gone ≡ after order m (dels keys)
  dels-difference m keys gone s h =
      filter-same_keys (λ q. is_none (lookup order gone q)) (λ q. not (list_any (λ k. is_eq (order k q)) keys)) m
      (AllKeys-map (HasKey order m) (λ q. is_none (lookup order gone q) ≡ not (list_any (λ k. is_eq (order k q)) keys)) (λ q has. ap is_none (h q) ∙ found_where m q has.0 has.1 keys) m (keys_found m s))
      ∙ sym (after_dels-filter total keys m)

  -- removals are the difference with what the entries found build
  pub difference-found : (m : List (K × V)) (keys : List K) → IsIncreasing order m → difference order m (build order (found_in order m keys)) ≡ after order m (dels keys)
  difference-found m keys s = dels-difference m keys (build order (found_in order m keys)) s (lookup-build total exact (found_in order m keys))

module _ {K V : Type 0} (order : K → K → Ordering) where
  -- one key more
  pub found_more : (m : List (K × V)) (keys : List K) (i : ℕ) (k : K) → i < length keys → k ≡ get_or keys i k → found_in order m (take (i + 1) keys) ≡ found_in order m (take i keys) ++ cons_option (option_map (λ v. (k, v)) (lookup order m k)) []
  found_more m keys i k h is =
      let f : K → Option (K × V) = λ d. option_map (λ v. (d, v)) (lookup order m d) in
      ap (filter_map f) (take_more keys i k h ∙ ap (λ x. take i keys ++ x ∷ []) (sym is)) ∙ filter_map-append f (take i keys) (k ∷ [])
