-- Rules that weigh terms.
use Rattle.std.specs.Prelude.{ℕ, ◌+◌, ◌*◌, ◌-◌, ◌/◌, ◌^◌, max, min}

-- a number that stops at the greatest of 64 bits
abbrev pub sat : ℕ → ℕ
sat n = min n (2 ^ 64 - 1)

-- BM25 in thousandths, with 1.2 and 0.75: (k + 1) * times / (times + k * (1 - b) + k * b * terms / mean)
abbrev pub bm25 : ℕ → ℕ → ℕ → ℕ
bm25 mean times terms = sat (times * 2200000) / sat (sat (sat (times * 1000) + sat (terms * 900) / max mean 1) + 300)
