-- The later of two entries, by their values.
use Rattle.std.specs.declared.cmp.Ordering.{Ordering}
use Rattle.std.specs.Ordering.{on}

-- entries in the order of their values
abbrev pub by_value : {K V : Type 0} → (V → V → Ordering) → K × V → K × V → Ordering
by_value order = on (λ e. e.1) order
