use Rattle.std.proofs.Common.{◌≡◌, take}
use Rattle.served_graph.specs.Nets.{added_parts, cut_parts}
use Rattle.served_graph.proofs.net.Net.of.Given as goal

abbrev pub invariant-loop-key : goal.invariant-loop-key
invariant-loop-key l = (l.net.cut.items ≡ cut_parts (take l.key-index l.entries)) × (l.net.added.items ≡ added_parts (take l.key-index l.entries))
