-- The numbers behind a word.
use Rattle.std.proofs.Common.{◌≡◌, ◌∙◌, ◌+◌, ◌-◌, ◌<◌, ◌≤◌, ℕ, [], Ok, Err, nat_le, length, drop, refl, ap, arith, true, false}
use Rattle.std.proofs.lemmas.Bool.{le-leb, lt-leb}
use Rattle.std.proofs.lemmas.List.{get_or-drop, length-drop}
use Rattle.script.specs.Fields.{number_in, or_code}
use Rattle.script.specs.Numbers.{number_of}
use Rattle.script.specs.Records.{Fields}
use Rattle.script.specs.Results.{◌>>=◌}
use Rattle.script.specs.declared.fault.Code.TheVariants as code
use Rattle.serve_script.specs.Words.{next_number, next_numbers}

-- a field behind a place
field_behind : (r : Fields) (at i : ℕ) → number_in (drop at r) i ≡ number_in r (at + i)
field_behind r at i = ap (λ f. or_code code.Number (number_of f)) (get_or-drop at r i [])

pub number-next : (r : Fields) (at : ℕ) → 1 ≤ length r - at → next_number (drop at r) ≡ number_in r at
number-next r at h =
    let some : nat_le 1 (length (drop at r)) ≡ true = le-leb 1 (length (drop at r)) (rw (length-drop at r) h) in
    let here : at + 0 ≡ at = omega arith in
    rw some (field_behind r at 0 ∙ ap (number_in r) here)

pub number-none : (r : Fields) (at : ℕ) → length r - at < 1 → next_number (drop at r) ≡ Err code.Fields
number-none r at h =
    let none : nat_le 1 (length (drop at r)) ≡ false = lt-leb 1 (length (drop at r)) (rw (length-drop at r) h) in
    rw none refl

pub numbers-next : (r : Fields) (at : ℕ) → 2 ≤ length r - at
    → next_numbers (drop at r) ≡ (number_in r at >>= λ a. number_in r (at + 1) >>= λ b. Ok (a, b))
numbers-next r at h =
    let some : nat_le 2 (length (drop at r)) ≡ true = le-leb 2 (length (drop at r)) (rw (length-drop at r) h) in
    let here : number_in (drop at r) 0 ≡ number_in r at = field_behind r at 0 ∙ ap (number_in r) (omega arith) in
    rw (some, here, field_behind r at 1) refl

pub numbers-none : (r : Fields) (at : ℕ) → length r - at < 2 → next_numbers (drop at r) ≡ Err code.Fields
numbers-none r at h =
    let none : nat_le 2 (length (drop at r)) ≡ false = lt-leb 2 (length (drop at r)) (rw (length-drop at r) h) in
    rw none refl
