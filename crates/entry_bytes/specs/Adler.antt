-- Adler-32, as RFC 1950 tells it: two sums modulo 65521, the second above the first.
use Rattle.std.specs.Prelude.{ℕ, ◌+◌, ◌*◌, ◌%◌, List, [], ◌∷◌, sum}

-- what a running sum is after each byte, where it begins with this, all of these added up
abbrev pub sum_of_sums : ℕ → List ℕ → ℕ
sum_of_sums running [] = 0
sum_of_sums running (b ∷ bs) = (running + b) + sum_of_sums (running + b) bs

-- the running sum begins with one
unfoldable pub adler32 : List ℕ → ℕ
adler32 bytes = 65536 * (sum_of_sums 1 bytes % 65521) + (1 + sum bytes) % 65521
