-- Digits that are written to the right of a number.
use Rattle.std.specs.Prelude.{ℕ, ◌+◌, ◌-◌, ◌*◌, ◌^◌, min}

abbrev pub written : ℕ → ℕ → ℕ
written number digit = min (min (number * 10) (2 ^ 64 - 1) + digit) (2 ^ 64 - 1)
