-- What is left of a list between two places, and around that.
use Rattle.std.proofs.Common.{◌≡◌, ℕ, ◌+◌, ◌-◌, ◌<◌, ◌≤◌, min, List, [], ◌∷◌, ◌++◌, length, take, drop, get_or, refl, sym, ap, ap₂, ◌∙◌, inl, inr, arith, length-drop, append_assoc, length-append}
use Rattle.std.specs.List.{slice_range}
use Rattle.std.proofs.lemmas.Bool.{cases_lt}
use Rattle.std.proofs.lemmas.List.{append-nil, drop-drop, drop-take, take-append-le, take_all, length-take-le}
use Rattle.std.proofs.Math.Seq.{take-add, drop-append-add}
use Rattle.pac_seq.specs.Seats.{IsBack, IsFront}

module _ {E : Type 0} where
  -- no places
  pub span_none : (es : List E) (from to : ℕ) → to ≤ from → slice_range es from to ≡ []
  span_none es from to le = let none : to - from ≡ 0 = omega (arith, le) in ap (λ n. take n (drop from es)) none

  -- all places from one on
  pub span_all : (es : List E) (from to : ℕ) → length es ≤ to → slice_range es from to ≡ drop from es
  span_all es from to le = take_all (to - from) (drop from es) (omega (arith, length-drop from es, le))

  -- places past the end have no items
  pub span_within : (es : List E) (from to : ℕ) → slice_range es from (min to (length es)) ≡ slice_range es from to
  span_within es from to =
      elim (cases_lt to (length es)) [
        | inl inside ↦ (let is : min to (length es) ≡ to = omega (arith, inside) in ap (slice_range es from) is)
        | inr past ↦ span_all es from (min to (length es)) (omega (arith, past)) ∙ sym (span_all es from to past)
      ]

  -- places in two parts
  pub span_parts : (es : List E) (from mid to : ℕ) → from ≤ mid → mid ≤ to → slice_range es from to ≡ slice_range es from mid ++ slice_range es mid to
  span_parts es from mid to low high =
      let count : to - from ≡ (mid - from) + (to - mid) = omega (arith, low, high) in
      let there : from + (mid - from) ≡ mid = omega (arith, low) in
      ap (λ n. take n (drop from es)) count
      ∙ take-add (mid - from) (to - mid) (drop from es)
      ∙ ap (λ l. slice_range es from mid ++ take (to - mid) l) (drop-drop (mid - from) from es ∙ ap (λ n. drop n es) there)

  -- the first places, by the items that begin there
  pub span_front : (es items : List E) (from count to : ℕ) → IsFront items (drop from es) → count ≤ length items → from + count ≤ to → slice_range es from to ≡ take count items ++ slice_range es (from + count) to
  span_front es items from count to front within le =
      let size : from + count - from ≡ count = omega arith in
      let first : slice_range es from (from + count) ≡ take count items =
      ap (λ n. take n (drop from es)) size ∙ ap (take count) front.begins ∙ take-append-le count items (drop (length items) (drop from es)) within in
      span_parts es from (from + count) to (omega arith) le ∙ ap (λ l. l ++ slice_range es (from + count) to) first

  -- the last places, by the items that end there
  pub span_back : (es before : List E) (from count to : ℕ) → IsBack before (take to es) → count ≤ length before → from + count ≤ to → to ≤ length es → slice_range es from to ≡ slice_range es from (to - count) ++ drop (length before - count) before
  span_back es before from count to back within le few =
      let low : to - count + count ≡ to = omega (arith, le) in
      let size : to - (to - count) ≡ count = omega (arith, le) in
      let long : length back.before + length before ≡ to = sym (length-append back.before before) ∙ ap length (sym back.ends) ∙ length-take-le to es few in
      let cut : to - count ≡ length back.before + (length before - count) = omega (arith, long, within) in
      let last : slice_range es (to - count) to ≡ drop (length before - count) before =
      ap (λ n. take n (drop (to - count) es)) size
      ∙ sym (drop-take (to - count) count es)
      ∙ ap (λ n. drop (to - count) (take n es)) low
      ∙ ap₂ drop cut back.ends
      ∙ drop-append-add back.before before (length before - count) in
      span_parts es from (to - count) to (omega (arith, le)) (omega arith) ∙ ap (λ l. slice_range es from (to - count) ++ l) last

  pub nothing : (items : List E) → length items ≡ 0 → items ≡ []
  nothing [] none = refl
  nothing (x ∷ items) none = absurd (omega (arith, none))

  -- the first item is taken of the places, where there are none before them
  pub first_taken : (es items front back rest : List E) (first : E) (from count to : ℕ) → length front ≡ 0 → IsFront items (drop from es) → count ≤ length items → from + count ≤ to → take count items ≡ first ∷ rest
      → front ++ slice_range es from to ++ back ≡ first ∷ (rest ++ slice_range es (from + count) to ++ back)
  first_taken es items front back rest first from count to none begins within le is =
      ap (λ l. l ++ slice_range es from to ++ back) (nothing front none)
      ∙ ap (λ l. l ++ back) (span_front es items from count to begins within le ∙ ap (λ l. l ++ slice_range es (from + count) to) is)

  -- the last item is taken of the places, where there are none behind them
  pub last_taken : (es before items front back : List E) (last : E) (from count place to : ℕ) → length back ≡ 0 → IsFront items (drop place es) → IsBack before (take place es) → to ≡ place + 1 → take 1 items ≡ last ∷ []
      → count ≤ length before → from + count ≤ place → place ≤ length es
      → front ++ slice_range es from to ++ back ≡ (front ++ slice_range es from (place - count) ++ drop (length before - count) before) ++ last ∷ []
  last_taken es before items front back last from count place to none begins ends next is within le few =
      let middle = slice_range es from (place - count) in
      let run = drop (length before - count) before in
      let one : slice_range es place (place + 1) ≡ last ∷ [] =
      span_front es items place 1 (place + 1) begins (omega (arith, begins.some)) (omega arith)
      ∙ ap (λ l. l ++ slice_range es (place + 1) (place + 1)) is
      ∙ ap (λ l. last ∷ l) (span_none es (place + 1) (place + 1) (omega arith)) in
      let both : slice_range es from to ≡ middle ++ run ++ last ∷ [] =
      ap (slice_range es from) next
      ∙ span_parts es from place (place + 1) (omega (arith, le)) (omega arith)
      ∙ ap₂ (λ x y. x ++ y) (span_back es before from count place ends within le few) one in
      ap (λ l. front ++ slice_range es from to ++ l) (nothing back none)
      ∙ append-nil (front ++ slice_range es from to)
      ∙ ap (λ l. front ++ l) both
      ∙ sym (append_assoc front (middle ++ run) (last ∷ []))
      ∙ ap (λ l. l ++ last ∷ []) (sym (append_assoc front middle run))

  -- the item at the first place is the first one
  pub first_of : (items : List E) (e : E) → 0 < length items → e ≡ get_or items 0 e → take 1 items ≡ e ∷ []
  first_of [] e some is = absurd (omega (arith, some))
  first_of (x ∷ items) e some is = ap (λ y. y ∷ []) (sym is)
