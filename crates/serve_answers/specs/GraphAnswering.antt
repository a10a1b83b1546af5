-- What a graph answers, which is seen as the list of its edges.
use Rattle.std.specs.Prelude.{◌∷◌, [], ℕ, List, codes, length}
use Rattle.graph_snap.specs.Edges.{out_neighbours, sources}
use Rattle.graph_snap.specs.Walks.{reach}
use Rattle.graph_snap.specs.declared.edge.Reached.{Reached}
use Rattle.graph_tool.specs.Effects.{reached_numbers}
use Rattle.serve_script.specs.declared.edge_words.EdgeQuery.{EdgeQuery}
use Rattle.serve_script.specs.declared.edge_words.EdgeQuery.TheVariants as query
use Rattle.script.specs.Lines.{counted, line_of, reply_of}

abbrev pub degree_reply : List (ℕ × ℕ) → ℕ → List ℕ
degree_reply g u = reply_of (codes "degree") (length (out_neighbours g u) ∷ [])

abbrev pub reached_reply : List Reached → List ℕ
reached_reply found = reply_of (codes "bfs") (counted reached_numbers found)

-- the answer to a query
abbrev pub answer_of : List (ℕ × ℕ) → EdgeQuery → List ℕ
answer_of g (query.Degree u) = degree_reply g u
answer_of g (query.Bfs u) = reached_reply (reach g u)
answer_of g query.Size = reply_of (codes "graph") (length (sources g) ∷ length g ∷ [])

-- the last line: how many vertices have an out-neighbour, and how many edges there are
abbrev pub last_of : List (ℕ × ℕ) → List ℕ
last_of g = line_of (codes "final") (length (sources g) ∷ length g ∷ [])
