-- What is left of a list between two places, and before a place.
use Rattle.std.proofs.Common.{◌≡◌, ℕ, zero, suc, ◌+◌, ◌-◌, ◌<◌, ◌≤◌, List, [], ◌∷◌, ◌++◌, length, take, drop, Some, Result, sym, ap, ◌∙◌, arith}
use Rattle.std.specs.List.{slice_get, slice_range}
use Rattle.std.proofs.lemmas.List.{append_assoc, drop-drop, same_from_push}
use Rattle.std.proofs.Math.Seq.{take-add, take-append-add}
use Rattle.tree_walk.specs.Shares.{Takes}
use Rattle.tree_walk.proofs.Dropped.{entry_here}

module _ {E : Type 0} where
  -- an entry at a place is the last of those up to it
  pub take_here : (es : List E) (i : ℕ) (e : E) → drop i es ≡ e ∷ drop (i + 1) es → take (i + 1) es ≡ take i es ++ e ∷ []
  take_here es i e is = take-add i 1 es ∙ ap (λ l. take i es ++ take 1 l) is

  -- the first entry between two places
  pub slice_first : (es : List E) (at end : ℕ) (e : E) → at < end → drop at es ≡ e ∷ drop (at + 1) es → slice_range es at end ≡ e ∷ slice_range es (at + 1) end
  slice_first es at end e lt is =
      let more : end - at ≡ suc (end - (at + 1)) = omega (arith, lt) in
      ap (λ n. take n (drop at es)) more ∙ ap (take (suc (end - (at + 1)))) is

  -- the last entry between two places
  pub slice_last : (es : List E) (at last : ℕ) (e : E) → at ≤ last → drop last es ≡ e ∷ drop (last + 1) es → slice_range es at (last + 1) ≡ slice_range es at last ++ e ∷ []
  slice_last es at last e le is =
      let more : last + 1 - at ≡ last - at + 1 = omega (arith, le) in
      let here : at + (last - at) ≡ last = omega (arith, le) in
      let behind : at + (last - at + 1) ≡ last + 1 = omega (arith, le) in
      let left : drop (last - at) (drop at es) ≡ e ∷ drop (last - at + 1) (drop at es) =
      drop-drop (last - at) at es ∙ ap (λ n. drop n es) here ∙ is ∙ ap (λ n. e ∷ drop n es) (sym behind) ∙ ap (λ l. e ∷ l) (sym (drop-drop (last - at + 1) at es)) in
      ap (λ n. take n (drop at es)) more ∙ take_here (drop at es) (last - at) e left

  -- a list that goes on behind another, up to a place in it
  pub take_behind : (front : List E) (e : E) (back : List E) (i : ℕ) → length front < i → take i (front ++ e ∷ back) ≡ (front ++ e ∷ []) ++ take (i - length front - 1) back
  take_behind front e back i lt =
      let whole : i ≡ length front + suc (i - length front - 1) = omega (arith, lt) in
      ap (λ n. take n (front ++ e ∷ back)) whole
      ∙ take-append-add front (e ∷ back) (suc (i - length front - 1))
      ∙ sym (append_assoc front (e ∷ []) (take (i - length front - 1) back))

  -- what begins behind a place is there
  pub first_here : (es : List E) (i : ℕ) (e : E) (rest : List E) → drop i es ≡ e ∷ rest → slice_get es i ≡ Some e
  first_here [] zero e rest is = cc
  first_here [] (suc i) e rest is = cc
  first_here (x ∷ es) zero e rest is = ap (λ l. slice_get l 0) is
  first_here (x ∷ es) (suc i) e rest is = first_here es i e rest is

-- what stands before an entry of a block, where the entries up to it end with those of the block
pub take_before : {E R : Type 0} → (es block before : List E) (i j : ℕ) (item : Result E R) → take (i + 1) es ≡ before ++ take (j + 1) block → i < length es → Takes block j item → Takes es i item × (take i es ≡ before ++ take j block)
take_before es block before i j item is within takes =
    let found = entry_here es i within in
    let both : take i es ++ found.0 ∷ [] ≡ (before ++ take j block) ++ takes.0 ∷ [] =
    sym (take_here es i found.0 found.1) ∙ is ∙ ap (λ l. before ++ l) (take_here block j takes.0 takes.1) ∙ sym (append_assoc before (take j block) (takes.0 ∷ [])) in
    let same = same_from_push (take i es) (before ++ take j block) found.0 takes.0 both in
    ((takes.0, found.1 ∙ ap (λ x. x ∷ drop (i + 1) es) same.1, takes.2), same.0)
