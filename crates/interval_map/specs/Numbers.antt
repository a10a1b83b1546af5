-- Numbers of 128 bits that stand for intervals.
use Rattle.std.specs.Prelude.{ℕ, ◌+◌, ◌*◌, ◌/◌, ◌%◌, ◌^◌}
use Rattle.aug_monoid.specs.declared.pair64.Pair64.{Pair64}
use Rattle.interval_map.specs.Intervals.{interval}

-- the number that stands for an interval
abbrev pub number_of : Pair64 → ℕ
number_of i = i.first * 2 ^ 64 + i.second

-- the interval that a number stands for
abbrev pub interval_of : ℕ → Pair64
interval_of number = interval (number / 2 ^ 64) (number % 2 ^ 64)
