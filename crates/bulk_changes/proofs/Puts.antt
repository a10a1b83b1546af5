-- An entry put into a list of entries at its place, and the entries of an increasing list put in turn.
use Rattle.std.proofs.Common.{◌≡◌, ℕ, List, [], ◌∷◌, ◌++◌, Some, None, length, take, drop, get_or, refl, sym, ap, ap₂, subst, ◌∙◌, cond}
use Rattle.std.specs.Prelude.{set as set_item}
use Rattle.std.specs.Cmp.{IsTotalOrder}
use Rattle.std.specs.List.{fold}
use Rattle.std.specs.Option.{option_map_or}
use Rattle.std.specs.Ordering.{is_eq}
use Rattle.std.specs.declared.cmp.Ordering.{Ordering}
use Rattle.std.specs.declared.cmp.Ordering.TheVariants.{Less}
use Rattle.std.proofs.lemmas.List.{set_at, get_or_at}
use Rattle.map_model.specs.Order.{IsExact}
use Rattle.map_model.specs.Entries.{AllAbove, AllKeys, IsIncreasing, above, below, lookup, set}
use Rattle.map_model.specs.SetOperations.{union}
use Rattle.map_model.proofs.Cuts.{cut_missed}
use Rattle.map_model.proofs.Keys.{AllKeys-map}
use Rattle.map_model.proofs.Lookups.{lookup-set}
use Rattle.map_model.proofs.Splits.{split_found}
use Rattle.map_model.proofs.Unions.{IsIncreasing-union}

-- what the entries make with the part of the slice that is still to come
abbrev pub Putting : {K V : Type 0} → (K → K → Ordering) → (V → V → V) → List (K × V) → List (K × V) → List (K × V) → Type 0
Putting order f out rest whole = (union order f out rest ≡ whole) × IsIncreasing order out × IsIncreasing order rest

module _ {K V : Type 0} {order : K → K → Ordering} (total : IsTotalOrder order) (exact : IsExact order) (f : V → V → V) where
  module _ (m : List (K × V)) (new : K × V) (s : IsIncreasing order m) where
    -- a key that is there has its value changed at its place
    pub changed_at : (old : K × V) (at : ℕ) (v val : V) → at ≡ length (below order m new.0) → lookup order m new.0 ≡ Some v → old ≡ get_or m at old → val ≡ f v new.1 → set_item m at (old.0, val) ≡ union order f m (new ∷ [])
    changed_at old at v val at_is found old_is val_is =
        let l = below order m new.0 in
        let r = above order m new.0 in
        let whole = split_found total exact m new.0 v s found in
        let here : old ≡ (new.0, v) = old_is ∙ ap (λ es. get_or es at old) whole ∙ get_or_at l (new.0, v) r old at (sym at_is) in
        ap (λ es. set_item es at (old.0, val)) whole
        ∙ set_at l (new.0, v) r (old.0, val) at (sym at_is)
        ∙ ap₂ (λ k w. l ++ (k, w) ∷ r) (ap (λ (e : K × V). e.0) here) val_is
        ∙ ap (λ o. l ++ (new.0, option_map_or (λ w. f w new.1) o new.1) ∷ r) (sym found)

    -- a key that is not there is put at its place
    pub put_at : (at : ℕ) → at ≡ length (below order m new.0) → lookup order m new.0 ≡ None → take at m ++ new ∷ drop at m ≡ union order f m (new ∷ [])
    put_at at at_is absent =
        let parts = cut_missed total exact m new.0 s absent in
        ap (λ n. take n m ++ new ∷ drop n m) at_is
        ∙ ap₂ (λ l r. l ++ new ∷ r) parts.0 parts.1
        ∙ ap (λ o. below order m new.0 ++ (new.0, option_map_or (λ w. f w new.1) o new.1) ∷ above order m new.0) (sym absent)

  -- entries whose keys two maps have alike make the same of both
  same_values : (a b m rest : List (K × V)) → AllKeys (λ q. lookup order a q ≡ lookup order b q) rest
      → fold (λ n e. set order n e.0 (option_map_or (λ v. f v e.1) (lookup order a e.0) e.1)) m rest ≡ fold (λ n e. set order n e.0 (option_map_or (λ v. f v e.1) (lookup order b e.0) e.1)) m rest
  same_values a b m [] same = refl
  same_values a b m (e ∷ rest) same =
      ap (λ o. fold (λ n e. set order n e.0 (option_map_or (λ v. f v e.1) (lookup order a e.0) e.1)) (set order m e.0 (option_map_or (λ v. f v e.1) o e.1)) rest) same.0
      ∙ same_values a b (set order m e.0 (option_map_or (λ v. f v e.1) (lookup order b e.0) e.1)) rest same.1

  -- the first entry of those that rise is put, and then the others
  pub union-first : (m : List (K × V)) (e : K × V) (rest : List (K × V)) → AllAbove order rest e.0 → union order f (union order f m (e ∷ [])) rest ≡ union order f m (e ∷ rest)
  union-first m e rest higher =
      let val = option_map_or (λ v. f v e.1) (lookup order m e.0) e.1 in
      let same = AllKeys-map (λ q. order e.0 q ≡ Less) (λ q. lookup order (set order m e.0 val) q ≡ lookup order m q) (λ q less. lookup-set total exact m e.0 val q ∙ ap (λ o. cond (is_eq o) (Some val) (lookup order m q)) less) rest higher in
      same_values (set order m e.0 val) m (set order m e.0 val) rest same

  -- one entry of the slice is put
  pub put_on : (out whole rest : List (K × V)) (new : K × V) (rest' out' : List (K × V)) → Putting order f out rest whole → rest ≡ new ∷ rest' → out' ≡ union order f out (new ∷ []) → Putting order f out' rest' whole
  put_on out whole rest new rest' out' here is put =
      let rises = subst (IsIncreasing order) is here.2 in
      (ap (λ x. union order f x rest') put ∙ union-first out new rest' rises.0 ∙ ap (union order f out) (sym is) ∙ here.0, subst (IsIncreasing order) (sym put) (IsIncreasing-union total f out (new ∷ []) here.1), rises.1)
