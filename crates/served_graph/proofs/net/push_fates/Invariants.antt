use Rattle.std.proofs.Common.{◌≡◌, ◌++◌, take}
use Rattle.std.specs.Prelude.{map}
use Rattle.served_graph.specs.Nets.{fate_of}
use Rattle.served_graph.proofs.net.push_fates.Given as goal

abbrev pub invariant-loop-op : goal.invariant-loop-op
invariant-loop-op l = l.fates.items ≡ l.initial.fates.items ++ map fate_of (take l.op-index l.ops)
