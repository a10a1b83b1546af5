use Rattle.std.proofs.Common.{ℕ, List, reverse, length}
use Rattle.graph_order.specs.Searches.{Closes, walk_of}
use Rattle.graph_order.proofs.Cycles.{IsBack}
use Rattle.graph_order.proofs.search.cycle_from.Given as goal

abbrev pub invariant-back : goal.invariant-back
invariant-back l = (g : List (ℕ × ℕ)) (done : List ℕ) → Closes g done (walk_of l.fn.walk.items) l.first → IsBack g done (walk_of l.left.items) (reverse l.cycle.items) l.first

abbrev pub decreases-back : goal.decreases-back
decreases-back l = length l.left.items
