-- Where the first line `run` stands.
use Rattle.std.proofs.Common.{◌≡◌, ◌∙◌, ◌+◌, ◌-◌, ◌<◌, ◌≤◌, ◌&&◌, [], ◌∷◌, ℕ, suc, Bool, true, false, List, Option, Some, None, refl, sym, ap, arith, cond, drop, take, length, length-drop, min}
use Rattle.std.proofs.lemmas.List.{length-take}
use Rattle.std.specs.List.{find, range_with_len}
use Rattle.std.specs.Str.{bytes_eq}
use Rattle.std.proofs.lemmas.Slice.Eq.{bytes_eq-Decides}
use Rattle.check_input.specs.RunLine.{begins_line, is_run_line, run_line, run_word}

pub minus-zero : (n : ℕ) → n - 0 ≡ n
minus-zero n = omega arith

-- places from one on, up to an end, are that place and those behind it
places_from : (p : ℕ → Bool) (at end : ℕ) → at < end → find p (range_with_len at (end - at)) ≡ cond (p at) (Some at) (find p (range_with_len (at + 1) (end - (at + 1))))
places_from p at end some =
    let one : end - at ≡ suc (end - (at + 1)) = omega arith in
    rw one refl

-- the search ends at a place that passes, and else goes on behind it
pub found_here : (p : ℕ → Bool) (at end : ℕ) → at < end → p at ≡ true → find p (range_with_len at (end - at)) ≡ Some at
found_here p at end some here = places_from p at end some ∙ rw here refl

pub goes_on : (p : ℕ → Bool) (at end : ℕ) → at < end → p at ≡ false → find p (range_with_len at (end - at)) ≡ find p (range_with_len (at + 1) (end - (at + 1)))
goes_on p at end some here = places_from p at end some ∙ rw here refl

pub none_left : (p : ℕ → Bool) (at end : ℕ) → end ≤ at → find p (range_with_len at (end - at)) ≡ None
none_left p at end none =
    let zero_left : end - at ≡ 0 = omega arith in
    rw zero_left refl

-- what is found passes
passes_at : (p : ℕ → Bool) (y x : ℕ) (b : Bool) (rest : Option ℕ) → p y ≡ b → (rest ≡ Some x → p x ≡ true) → cond b (Some y) rest ≡ Some x → p x ≡ true
passes_at p y x true rest is later found = cc (is, found)
passes_at p y x false rest is later found = later found

found_passes : (p : ℕ → Bool) (xs : List ℕ) (x : ℕ) → find p xs ≡ Some x → p x ≡ true
found_passes p [] x e = cc e
found_passes p (y ∷ ys) x e = passes_at p y x (p y) (find p ys) refl (found_passes p ys x) e

both_hold : (a b : Bool) → (a && b) ≡ true → b ≡ true
both_hold true b e = e
both_hold false b e = cc e

-- the line `run` has four bytes
pub has_room : (bytes : List ℕ) (at : ℕ) → run_line bytes ≡ Some at → at + 4 ≤ length bytes
unfolding run_line is_run_line
has_room bytes at e =
    let passes : is_run_line bytes at ≡ true = found_passes (is_run_line bytes) (range_with_len 0 (length bytes)) at e in
    let same : bytes_eq (take 4 (drop at bytes)) run_word ≡ true = both_hold (begins_line bytes at) _ passes in
    let is : take 4 (drop at bytes) ≡ run_word = (bytes_eq-Decides (take 4 (drop at bytes)) run_word).0 same in
    let four : min 4 (length (drop at bytes)) ≡ 4 = sym (length-take 4 (drop at bytes)) ∙ ap length is in
    let rest = length-drop at bytes in
    omega (arith, four, rest)
