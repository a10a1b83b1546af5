-- Entries written into arrays, one after another.
use Rattle.std.proofs.Common.{◌≡◌, ℕ, ◌+◌, ◌<◌, List, [], ◌∷◌, ◌++◌, length, map, suc, zero, take, drop, get_or, min, refl, zero-add, sym, ap, ap₂, ◌∙◌, subst, add-one, arith}
use Rattle.std.specs.Prelude.{Some, slice_get}
use Rattle.std.proofs.Math.ListN.{set}
use Rattle.std.proofs.Math.Seq.{drop-cons}
use Rattle.std.proofs.lemmas.List.{take_more, take_more_set, take-map, take-append-drop, map-append, drop-set-lt}
use Rattle.std.proofs.lemmas.Option.{get_or_from_slice_get, slice_get_within}
use Rattle.map_handle.specs.Arrays.{filled, laid_over}

module _ {E : Type 0} (f : E → ℕ) where
  -- one more is in place
  pub more_first : (items : List ℕ) (found : List E) (i : ℕ) (e : E) → i < length items → slice_get found i ≡ Some e → take i items ≡ map f (take i found) → take (i + 1) (set items i (f e)) ≡ map f (take (i + 1) found)
  more_first items found i e h is same =
      take_more_set items i (f e) h
      ∙ ap (λ xs. xs ++ f e ∷ []) same
      ∙ ap (λ x. map f (take i found) ++ f x ∷ []) (sym (get_or_from_slice_get found i e e is))
      ∙ sym (map-append f (take i found) (get_or found i e ∷ []))
      ∙ sym (ap (map f) (take_more found i e (slice_get_within found i e is)))

  laid : (items others : List ℕ) (found : List E) (n : ℕ) → take n items ≡ map f (take n found) → drop n items ≡ drop n others → items ≡ laid_over n (map f found) others
  laid items others found n same rest = sym (take-append-drop n items) ∙ ap₂ (λ xs ys. xs ++ ys) (same ∙ sym (take-map f n found)) rest

-- what is behind stays
pub more_rest : (items others : List ℕ) (i y : ℕ) → i < length items → length items ≡ length others → drop i items ≡ drop i others → drop (i + 1) (set items i y) ≡ drop (i + 1) others
more_rest items others i y h l same =
    let b : drop i items ≡ get_or items i 0 ∷ drop (suc i) items = drop-cons items i 0 h in
    let c : drop i others ≡ get_or others i 0 ∷ drop (suc i) others = drop-cons others i 0 (omega arith) in
    let t : drop (suc i) items ≡ drop (suc i) others = cc in
    drop-set-lt (i + 1) items i y (omega arith) ∙ rw (add-one i) t

-- all are in place
pub filled_is : (found : List (ℕ × ℕ)) (keys vals keys_before vals_before : List ℕ) (n : ℕ) → n ≡ min (length keys_before) (length found)
    → take n keys ≡ map (λ (e : ℕ × ℕ). e.0) (take n found) → drop n keys ≡ drop n keys_before
    → take n vals ≡ map (λ (e : ℕ × ℕ). e.1) (take n found) → drop n vals ≡ drop n vals_before
    → ◌≡◌ {A = ℕ × List ℕ × List ℕ} (n, keys, vals) (filled found keys_before vals_before)
filled_is found keys vals keys_before vals_before n is k kr v vr =
    let p = laid (λ (e : ℕ × ℕ). e.0) keys keys_before found n k kr in
    let q = laid (λ (e : ℕ × ℕ). e.1) vals vals_before found n v vr in
    subst (λ (m : ℕ). ◌≡◌ {A = ℕ × List ℕ × List ℕ} (n, keys, vals) (m, laid_over m (map (λ (e : ℕ × ℕ). e.0) found) keys_before, laid_over m (map (λ (e : ℕ × ℕ). e.1) found) vals_before)) is (λ i. (n, p i, q i))

pub slice_get-drop : {X : Type 0} (n : ℕ) (xs : List X) (i : ℕ) → slice_get (drop n xs) i ≡ slice_get xs (n + i)
slice_get-drop zero xs i = ap (slice_get xs) (sym (zero-add i))
slice_get-drop (suc n) [] i = refl
slice_get-drop (suc n) (x ∷ xs) i =
    let e : suc (n + i) ≡ suc n + i = omega arith in
    slice_get-drop n xs i ∙ ap (slice_get (x ∷ xs)) e

-- what is left behind a place begins with the entry there
pub behind : {X : Type 0} (found rest : List X) (i : ℕ) (e : X) → drop i found ≡ e ∷ rest → (slice_get found i ≡ Some e) × (rest ≡ drop (i + 1) found)
behind found rest i e h =
    let z : i + 0 ≡ i = omega arith in
    let is : slice_get found i ≡ Some e = ap (slice_get found) (sym z) ∙ sym (slice_get-drop i found 0) ∙ ap (λ xs. slice_get xs 0) h in
    let d : drop i found ≡ get_or found i e ∷ drop (suc i) found = drop-cons found i e (slice_get_within found i e is) in
    let t : rest ≡ drop (suc i) found = cc in
    (is, rw (add-one i) t)
