-- How many augmented values a filter and a search test.
use Rattle.std.specs.Prelude.{ℕ, ◌+◌, ◌*◌}

-- the most that a filter of a map tests of which so many entries pass: one, and for each of these those beside its path
abbrev pub filter_tests : ℕ → ℕ → ℕ → ℕ
filter_tests block height kept = 1 + kept * (3 * height + 2 * block)

-- the most that a search for the first entry that passes tests
abbrev pub search_tests : ℕ → ℕ → ℕ
search_tests block height = 3 * height + 2 * block + 1
