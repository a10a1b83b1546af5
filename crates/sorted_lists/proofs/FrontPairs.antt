-- Elements that are swapped to the front where they differ from the last one there.
use Rattle.std.proofs.Common.{◌≡◌, ℕ, ◌+◌, ◌-◌, ◌<◌, ◌≤◌, Bool, true, false, cond, List, [], ◌∷◌, ◌++◌, length, get_or, set, take, drop, refl, sym, ap, ◌∙◌, arith, append_assoc}
use Rattle.std.specs.List.{SwappedAt, dedup, dedup_from}
use Rattle.std.proofs.lemmas.Grind.{drop_more_same}
use Rattle.std.proofs.lemmas.List.{drop-set-lt, drop_all, drop_more, get_or_default, length-set, take-set-le, take_more}

module _ {X : Type 0} (same : X → X → Bool) (xs : List X) where
  -- of the first i elements of xs, k stand in front in ys; from i on ys is xs
  pub record StandInFront (ys : List X) (k i : ℕ) : Type 0 where
    pub long : length ys ≡ length xs
    pub some : 0 < k
    pub behind : k ≤ i
    pub within : i ≤ length xs
    pub rest : drop i ys ≡ drop i xs
    pub firsts : (d : X) → take (k - 1) ys ++ dedup_from same (get_or ys (k - 1) d) (drop i xs) ≡ dedup same xs

  module _ (ys : List X) (k i : ℕ) (x w : X) (within : i < length ys) (read : x ≡ get_or ys i x) (last : w ≡ get_or ys (k - 1) w) (h : StandInFront ys k i) where
    -- what is still to be seen begins with x
    begins : drop i xs ≡ x ∷ drop (i + 1) xs
    begins =
        sym h.rest ∙ drop_more ys i x within ∙ ap (λ y. y ∷ drop (i + 1) ys) (sym read) ∙ ap (λ l. x ∷ l) (drop_more_same ys xs i h.rest)

    at_last : take (k - 1) ys ++ cond (same x w) (dedup_from same w (drop (i + 1) xs)) (w ∷ dedup_from same x (drop (i + 1) xs)) ≡ dedup same xs
    at_last = ap (λ l. take (k - 1) ys ++ dedup_from same w l) (sym begins) ∙ ap (λ v. take (k - 1) ys ++ dedup_from same v (drop i xs)) last ∙ h.firsts w

    -- x is like the last one that stands there, and stays behind
    pub stays_behind : same x w ≡ true → StandInFront ys k (i + 1)
    stays_behind alike = record {
      long = h.long;
      some = h.some;
      behind = omega (arith, h.behind);
      within = omega (arith, h.long);
      rest = drop_more_same ys xs i h.rest;
      firsts = λ d.
          ap (λ v. take (k - 1) ys ++ dedup_from same v (drop (i + 1) xs)) (get_or_default ys (k - 1) d w (omega (arith, h.behind, h.some)) ∙ sym last)
          ∙ ap (λ b. take (k - 1) ys ++ cond b (dedup_from same w (drop (i + 1) xs)) (w ∷ dedup_from same x (drop (i + 1) xs))) (sym alike)
          ∙ at_last;
    }

    -- it differs, and is swapped to the front
    pub comes_forward : (zs : List X) → same x w ≡ false → SwappedAt ys zs k i → StandInFront zs (k + 1) (i + 1)
    comes_forward zs differs swapped =
        let is : zs ≡ set (set ys k (get_or ys i x)) i (get_or ys k x) = swapped.3 x in
        let before : k + 1 - 1 ≡ k = omega arith in
        let until : k - 1 + 1 ≡ k = omega (arith, h.some) in
        let front : take k zs ≡ take (k - 1) ys ++ w ∷ [] =
        ap (take k) is
        ∙ take-set-le k (set ys k (get_or ys i x)) i (get_or ys k x) h.behind
        ∙ take-set-le k ys k (get_or ys i x) (omega arith)
        ∙ ap (λ j. take j ys) (sym until)
        ∙ take_more ys (k - 1) w (omega (arith, h.behind))
        ∙ ap (λ v. take (k - 1) ys ++ v ∷ []) (sym last) in
        let left : drop (i + 1) zs ≡ drop (i + 1) ys =
        ap (drop (i + 1)) is
        ∙ drop-set-lt (i + 1) (set ys k (get_or ys i x)) i (get_or ys k x) (omega arith)
        ∙ drop-set-lt (i + 1) ys k (get_or ys i x) (omega (arith, h.behind)) in
        record {
          long = ap length is ∙ length-set (set ys k (get_or ys i x)) i (get_or ys k x) ∙ length-set ys k (get_or ys i x) ∙ h.long;
          some = omega arith;
          behind = omega (arith, h.behind);
          within = omega (arith, h.long);
          rest = left ∙ drop_more_same ys xs i h.rest;
          firsts = λ d.
              ap (λ j. take j zs ++ dedup_from same (get_or zs j d) (drop (i + 1) xs)) before
              ∙ ap (λ v. take k zs ++ dedup_from same v (drop (i + 1) xs)) (swapped.0 d ∙ get_or_default ys i d x within ∙ sym read)
              ∙ ap (λ l. l ++ dedup_from same x (drop (i + 1) xs)) front
              ∙ append_assoc (take (k - 1) ys) (w ∷ []) (dedup_from same x (drop (i + 1) xs))
              ∙ ap (λ b. take (k - 1) ys ++ cond b (dedup_from same w (drop (i + 1) xs)) (w ∷ dedup_from same x (drop (i + 1) xs))) (sym differs)
              ∙ at_last;
        }

module _ {X : Type 0} (same : X → X → Bool) where
  -- the first stands in front from the start on
  pub first_stands : (xs : List X) → 0 < length xs → StandInFront same xs xs 1 1
  first_stands [] some = absurd (omega (arith, some))
  first_stands (x ∷ xs) some = record { long = refl; some = omega arith; behind = omega arith; within = omega arith; rest = refl; firsts = λ d. refl }

  -- once all are seen, those in front are what is left
  pub all_seen : (xs ys : List X) (k i : ℕ) → length xs ≤ i → StandInFront same xs ys k i → take k ys ≡ dedup same xs
  all_seen xs [] k i seen h = absurd (omega (arith, h.long, h.some, h.behind, h.within))
  all_seen xs (y ∷ ys) k i seen h =
      let zs = y ∷ ys in
      let until : k - 1 + 1 ≡ k = omega (arith, h.some) in
      ap (λ j. take j zs) (sym until)
      ∙ take_more zs (k - 1) y (omega (arith, h.long, h.some, h.behind, h.within))
      ∙ ap (λ l. take (k - 1) zs ++ dedup_from same (get_or zs (k - 1) y) l) (sym (drop_all i xs seen))
      ∙ h.firsts y
