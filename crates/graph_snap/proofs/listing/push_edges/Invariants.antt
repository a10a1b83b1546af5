use Rattle.std.proofs.Common.{◌≡◌, ◌++◌, take}
use Rattle.graph_snap.specs.Listing.{edges_from}
use Rattle.graph_snap.proofs.listing.push_edges.Given as goal

abbrev pub invariant-loop-end : goal.invariant-loop-end
invariant-loop-end l = l.list.items ≡ l.initial.list.items ++ edges_from l.from (take l.end-index l.end-items)
