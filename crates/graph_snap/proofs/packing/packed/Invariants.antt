use Rattle.std.proofs.Common.{◌≡◌, take}
use Rattle.graph_snap.specs.Batches.{unpacked}
use Rattle.graph_snap.specs.Edges.{pairs_of}
use Rattle.graph_snap.proofs.packing.packed.Given as goal

abbrev pub invariant-loop-edge : goal.invariant-loop-edge
invariant-loop-edge l = unpacked l.keys.items ≡ pairs_of (take l.edge-index l.list)
