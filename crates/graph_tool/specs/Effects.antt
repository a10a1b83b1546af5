-- What the commands of the tool graph do, and what they reply.
use Rattle.std.specs.Prelude.{[], ◌∷◌, ◌++◌, ℕ, List, Option, None, Some, codes, length, map, slice_get}
use Rattle.aug_monoid.specs.declared.pair64.Pair64.{Pair64}
use Rattle.graph_comp.specs.Components.{components}
use Rattle.graph_comp.specs.declared.labelled.Labelled.{Labelled}
use Rattle.graph_snap.specs.Edges.{out_neighbours, pairs_of, sources, with_edges, without_edges}
use Rattle.graph_snap.specs.Walks.{reach}
use Rattle.graph_snap.specs.declared.edge.Edge.{Edge}
use Rattle.graph_snap.specs.declared.edge.Reached.{Reached}
use Rattle.graph_tool.specs.declared.graphs.Graphs as rust
use Rattle.script.specs.Lines.{counted, line_of}
use Rattle.graph_tool.specs.declared.commands.GraphCommand.{GraphCommand}
use Rattle.graph_tool.specs.declared.commands.GraphCommand.TheVariants as command

-- the present graph, and the kept ones in the order in which they were kept, each the list of its edges
pub record Graphs : Type 0 where
  pub present : List (ℕ × ℕ)
  pub kept : List (List (ℕ × ℕ))

abbrev pub no_graphs : Graphs
no_graphs = record { present = []; kept = [] }

-- pairs as edges, from the first vertex to the second
abbrev pub edges_in : List Pair64 → List Edge
edges_in pairs = map (λ p. record { from = p.first; to = p.second }) pairs

-- the graphs after a command
abbrev pub graph_after : Graphs → GraphCommand → Graphs
graph_after s (command.Add place edges) = record { present = with_edges s.present (pairs_of (edges_in edges)); kept = s.kept }
graph_after s (command.Cut place edges) = record { present = without_edges s.present (pairs_of (edges_in edges)); kept = s.kept }
graph_after s (command.Keep place) = record { present = s.present; kept = s.kept ++ s.present ∷ [] }
graph_after s c = s

-- a vertex and its distance
abbrev pub reached_numbers : Reached → List ℕ
reached_numbers r = r.vertex ∷ r.distance ∷ []

abbrev pub reached_line : List Reached → List ℕ
reached_line found = line_of (codes "bfs") (counted reached_numbers found)

-- a vertex and the least vertex of its component
abbrev pub label_numbers : Labelled → List ℕ
label_numbers l = l.vertex ∷ l.label ∷ []

abbrev pub components_line : List Labelled → List ℕ
components_line found = line_of (codes "comp") (counted label_numbers found)

-- what a search from u finds in a graph that may be absent
abbrev pub search_line : Option (List (ℕ × ℕ)) → ℕ → List ℕ
search_line None u = line_of (codes "none") []
search_line (Some g) u = reached_line (reach g u)

-- what a search from u finds in the kept graph of a number
abbrev pub kept_search : List (List (ℕ × ℕ)) → ℕ → ℕ → List ℕ
kept_search kept at u = search_line (slice_get kept at) u

-- the reply to a command, from the graphs before it
abbrev pub graph_reply : Graphs → GraphCommand → List ℕ
graph_reply s (command.Add place edges) = line_of (codes "ok") (length (with_edges s.present (pairs_of (edges_in edges))) ∷ [])
graph_reply s (command.Cut place edges) = line_of (codes "ok") (length (without_edges s.present (pairs_of (edges_in edges))) ∷ [])
graph_reply s (command.Keep place) = line_of (codes "kept") (length s.kept ∷ [])
graph_reply s (command.Size place) = line_of (codes "graph") (length (sources s.present) ∷ length s.present ∷ [])
graph_reply s (command.Degree place u) = line_of (codes "degree") (length (out_neighbours s.present u) ∷ [])
graph_reply s (command.Now place u) = reached_line (reach s.present u)
graph_reply s (command.Bfs place at u) = kept_search s.kept at u
graph_reply s (command.Comp place) = components_line (components s.present)

-- the graphs that a value of the program stands for
abbrev pub seen : rust.Graphs → Graphs
seen g = record { present = g.present; kept = g.kept.items }
