-- Answers for the keys below a node's key, for those that are it, and for those above it.
use Rattle.std.proofs.Common.{◌≡◌, ℕ, Bool, true, false, not, List, [], ◌∷◌, ◌++◌, map, Option, Some, refl, sym, ap, ap₂, ◌∙◌}
use Rattle.std.specs.declared.cmp.Ordering.{Ordering}
use Rattle.std.specs.declared.cmp.Ordering.TheVariants.{Less, Equal}
use Rattle.std.specs.Cmp.{IsTotalOrder}
use Rattle.std.proofs.lemmas.Bool.{true≢false}
use Rattle.std.proofs.lemmas.List.{map-append, append_assoc}
use Rattle.map_model.specs.Entries.{AllAbove, AllBelow, AllKeys, IsIncreasing, lookup}
use Rattle.map_model.proofs.Keys.{greater}
use Rattle.map_model.proofs.Lookups.{lookup_left, lookup_middle, lookup_right}

-- a key that is not missed
pub there : (b : Bool) → not b ≡ false → b ≡ true
there true h = refl
there false h = absurd (true≢false h)

module _ {K X : Type 0} (P : K → Type 0) (f g : K → X) (same : (k : K) → P k → f k ≡ g k) where
  -- answers that agree at each key
  pub agree : (keys : List (K × ℕ)) → AllKeys P keys → map {B = ℕ × X} (λ (e : K × ℕ). (e.1, f e.0)) keys ≡ map {B = ℕ × X} (λ (e : K × ℕ). (e.1, g e.0)) keys
  agree [] a = refl
  agree (e ∷ keys) a = ap₂ (λ x xs. (e.1, x) ∷ xs) (same e.0 a.0) (agree keys a.1)

module _ {K V X : Type 0} {order : K → K → Ordering} (total : IsTotalOrder order) (f : Option V → X) (l : List (K × V)) (key : K) (val : V) (r : List (K × V)) (s : IsIncreasing order (l ++ (key, val) ∷ r)) where
  abbrev answers : List (K × V) → List (K × ℕ) → List (ℕ × X)
  answers m keys = map (λ e. (e.1, f (lookup order m e.0))) keys

  abbrev whole : List (K × V)
  whole = l ++ (key, val) ∷ r

  pub node_answers : (low same high : List (K × ℕ)) → AllBelow order low key → AllKeys (λ k. order k key ≡ Equal) same → AllAbove order high key → (answers l low ++ map {B = ℕ × X} (λ (e : K × ℕ). (e.1, f (Some val))) same) ++ answers r high ≡ answers whole (low ++ (same ++ high))
  node_answers low same high lower tied upper =
      let front = agree (λ k. order k key ≡ Less) (λ k. f (lookup order whole k)) (λ k. f (lookup order l k)) (λ k h. ap f (lookup_left total l key val r k s h)) low lower in
      let middle = agree (λ k. order k key ≡ Equal) (λ k. f (lookup order whole k)) (λ k. f (Some val)) (λ k h. ap f (lookup_middle total l key val r k s h)) same tied in
      let back = agree (λ k. order key k ≡ Less) (λ k. f (lookup order whole k)) (λ k. f (lookup order r k)) (λ k h. ap f (lookup_right total l key val r k s (greater total key k h))) high upper in
      sym (map-append {B = ℕ × X} (λ (e : K × ℕ). (e.1, f (lookup order whole e.0))) low (same ++ high)
      ∙ ap (λ x. answers whole low ++ x) (map-append {B = ℕ × X} (λ (e : K × ℕ). (e.1, f (lookup order whole e.0))) same high)
      ∙ rw (front, middle, back) (sym (append_assoc (answers l low) (map {B = ℕ × X} (λ (e : K × ℕ). (e.1, f (Some val))) same) (answers r high))))
