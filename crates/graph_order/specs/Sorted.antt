-- What a sort of the vertices of a graph comes to.
use Rattle.std.specs.Prelude.{ℕ, List}
use Rattle.graph_order.specs.Orders.{IsCycle, IsTopologicalOrder}
use Rattle.graph_order.specs.declared.order.Sorted.{Sorted}
use Rattle.graph_order.specs.declared.order.Sorted.TheVariants.{Order, Cycle}

-- an order, or a cycle
abbrev pub IsSorted : List (ℕ × ℕ) → Sorted → Type 0
IsSorted g (Order vertices) = IsTopologicalOrder g vertices.items
IsSorted g (Cycle vertices) = IsCycle g vertices.items
