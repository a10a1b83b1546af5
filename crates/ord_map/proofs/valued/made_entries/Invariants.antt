use Rattle.std.proofs.Common.{◌≡◌, ◌++◌, map}
use Rattle.ord_map.proofs.valued.made_entries.Given as goal

abbrev pub invariant-loop-entry : goal.invariant-loop-entry
invariant-loop-entry g l = map (λ e. (e.0, g.F.MapValue.made_of l.how e.0 e.1)) l.from ≡ l.list.items ++ map (λ e. (e.0, g.F.MapValue.made_of l.how e.0 e.1)) l.entry-iterator
