use Rattle.graph_order.specs.Searches.{IsSearch, Keeps, to_look_at, walk_of}
use Rattle.graph_order.proofs.search.go_on.Given as goal

abbrev pub invariant-deeper : goal.invariant-deeper
invariant-deeper l = IsSearch l.graph l.search × Keeps l.initial.search.marks l.search.marks

abbrev pub decreases-deeper : goal.decreases-deeper
decreases-deeper l = to_look_at l.graph l.search.marks (walk_of l.search.walk.items)
