use Rattle.std.proofs.Common.{◌≡◌, take}
use Rattle.graph_snap.specs.Listing.{edge_list}
use Rattle.graph_snap.proofs.listing.edge_list.Given as goal

abbrev pub invariant-loop-entry : goal.invariant-loop-entry
invariant-loop-entry l = l.list.items ≡ edge_list (take l.entry-index l.entry-items)
