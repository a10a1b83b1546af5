-- What a served graph answers is within one line, and its last line is one.
use Rattle.std.proofs.Common.{◌∷◌, ℕ, List, [], codes, length, refl}
use Rattle.graph_snap.specs.Edges.{out_neighbours, sources}
use Rattle.graph_snap.specs.Walks.{reach}
use Rattle.serve_script.specs.declared.edge_words.EdgeQuery.{EdgeQuery}
use Rattle.serve_script.specs.declared.edge_words.EdgeQuery.TheVariants as query
use Rattle.serve_text.specs.Determined.{HasNoLineFeed, IsLastLine}
use Rattle.serve_answers.specs.GraphAnswering.{answer_of, last_of}
use Rattle.graph_tool.specs.Effects.{reached_numbers}
use Rattle.script.specs.Lines.{counted}
use Rattle.serve_input.proofs.InLine.{final_line, reply_in_line}

pub answer_in_line : (g : List (ℕ × ℕ)) (q : EdgeQuery) → HasNoLineFeed (answer_of g q)
answer_in_line g (query.Degree u) = reply_in_line (codes "degree") (length (out_neighbours g u) ∷ []) refl
answer_in_line g (query.Bfs u) = reply_in_line (codes "bfs") (counted reached_numbers (reach g u)) refl
answer_in_line g query.Size = reply_in_line (codes "graph") (length (sources g) ∷ length g ∷ []) refl

pub last_line : (g : List (ℕ × ℕ)) → IsLastLine (last_of g)
last_line g = final_line (length (sources g)) (length g ∷ [])
