-- How high sets of intervals may be.
use Rattle.std.specs.Prelude.{ℕ, ◌+◌, ◌*◌, ◌^◌, ◌<◌}

-- no set of at most so many intervals, which are kept in blocks of 64 to 128, is higher
abbrev pub IsHighest : ℕ → ℕ → Type 0
IsHighest count height = 3 ^ (height + 1) * (count + 1) < 4 ^ (height + 1) * 65
