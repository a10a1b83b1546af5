-- What the definitions of the replies of the tools seq, interval, points, index and graph give on worked examples.
use Rattle.std.proofs.Common.{◌≡◌, [], ◌∷◌, ℕ, codes, refl}
use Rattle.graph_tool.specs.Effects.{graph_after, graph_reply, no_graphs}
use Rattle.index_tool.specs.Effects.{index_after, index_reply}
use Rattle.interval_tool.specs.Effects.{interval_after, interval_reply}
use Rattle.points_tool.specs.Effects.{points_after, points_reply}
use Rattle.script.specs.Replies.{replies}
use Rattle.graph_tool.specs.declared.commands.GraphCommand.TheVariants as graph
use Rattle.index_tool.specs.declared.commands.IndexCommand.TheVariants as index
use Rattle.interval_tool.specs.declared.commands.IntervalCommand.TheVariants as interval
use Rattle.points_tool.specs.declared.commands.PointsCommand.TheVariants as points
use Rattle.points_tool.specs.declared.weighed.Weighed.{Weighed}
use Rattle.seq_tool.specs.declared.commands.SeqCommand.TheVariants as seq
use Rattle.seq_tool.specs.Effects.{seq_after, seq_reply}
use Rattle.seq_tool.specs.Registers.{empty_registers}
use Rattle.pam_top.proofs.Rows.{lines, pair}

-- an appended copy, a sequence turned round, parts of it, and an item that is set where there is one
sequences : replies seq_reply seq_after empty_registers (
    seq.Push 1 0 (1 ∷ 2 ∷ 3 ∷ []) ∷
    seq.Append 2 1 0 0 ∷
    seq.Reverse 3 2 1 ∷
    seq.Take 4 3 2 2 ∷
    seq.Skip 5 4 2 5 ∷
    seq.List 6 2 0 9 ∷
    seq.At 7 3 1 ∷
    seq.At 8 4 1 ∷
    seq.Fold 9 1 1 3 ∷
    seq.Set 10 0 3 9 ∷
    seq.Set 11 0 2 9 ∷
    seq.List 12 0 1 9 ∷
    seq.Size 13 0 ∷
    []) ≡ lines (
    (codes "ok", 3 ∷ []) ∷ (codes "ok", 6 ∷ []) ∷ (codes "ok", 6 ∷ []) ∷ (codes "ok", 2 ∷ []) ∷ (codes "ok", 1 ∷ []) ∷ (codes "list", 6 ∷ 3 ∷ 2 ∷ 1 ∷ 3 ∷ 2 ∷ 1 ∷ []) ∷ (codes "some", 2 ∷ []) ∷ (codes "none", []) ∷ (codes "aug", 6 ∷ 3 ∷ []) ∷ (codes "none", []) ∷ (codes "ok", 3 ∷ []) ∷ (codes "list", 2 ∷ 2 ∷ 9 ∷ []) ∷ (codes "size", 3 ∷ []) ∷ [])
sequences = refl

-- both ends of an interval are in it, and intervals may share an end
intervals : replies interval_reply interval_after [] (
    interval.Any 1 0 ∷
    interval.Add 2 1 3 ∷
    interval.Add 3 3 3 ∷
    interval.Add 4 5 9 ∷
    interval.Any 5 3 ∷
    interval.Any 6 4 ∷
    interval.Stab 7 3 ∷
    interval.Over 8 4 5 ∷
    interval.Del 9 1 3 ∷
    interval.Stab 10 2 ∷
    interval.Size 11 ∷
    []) ≡ lines (
    (codes "no", []) ∷ (codes "ok", 1 ∷ []) ∷ (codes "ok", 2 ∷ []) ∷ (codes "ok", 3 ∷ []) ∷ (codes "yes", []) ∷ (codes "no", []) ∷ (codes "hits", 2 ∷ 1 ∷ 3 ∷ 3 ∷ 3 ∷ []) ∷ (codes "hits", 1 ∷ 5 ∷ 9 ∷ []) ∷ (codes "ok", 2 ∷ []) ∷ (codes "hits", 0 ∷ []) ∷ (codes "size", 2 ∷ []) ∷ [])
intervals = refl

abbrev weighed : ℕ → ℕ → ℕ → Weighed
weighed x y w = record { x = x; y = y; w = w }

-- a rectangle with points, and one that has none
weighed_points : replies points_reply points_after [] (
    points.Add 1 (weighed 1 1 5 ∷ weighed 1 2 7 ∷ []) ∷
    points.Add 2 (weighed 2 1 9 ∷ []) ∷
    points.Sum 3 1 1 1 2 ∷
    points.Sum 4 3 4 0 9 ∷
    points.List 5 1 2 1 1 ∷
    points.Del 6 (pair 1 1 ∷ []) ∷
    points.Size 7 ∷
    []) ≡ lines (
    (codes "ok", []) ∷ (codes "ok", []) ∷ (codes "sum", 12 ∷ 2 ∷ []) ∷ (codes "sum", 0 ∷ 0 ∷ []) ∷ (codes "points", 2 ∷ 1 ∷ 1 ∷ 5 ∷ 2 ∷ 1 ∷ 9 ∷ []) ∷ (codes "ok", []) ∷ (codes "size", 2 ∷ []) ∷ [])
weighed_points = refl

-- capital letters become small, a document is added once, and a text may have no terms
documents : replies index_reply index_after [] (
    index.Doc 1 0 (codes "to be, or not to be") ∷
    index.Doc 2 1 (codes "Not yet") ∷
    index.And 3 (codes "not" ∷ []) ∷
    index.And 4 (codes "to" ∷ codes "be" ∷ []) ∷
    index.Or 5 (codes "to" ∷ codes "yet" ∷ []) ∷
    index.Without 6 (codes "not" ∷ codes "yet" ∷ []) ∷
    index.Top 7 1 (codes "to") ∷
    index.Top 8 0 (codes "to") ∷
    index.Doc 9 1 (codes "again") ∷
    index.Doc 10 2 [] ∷
    []) ≡ lines (
    (codes "ok", 4 ∷ []) ∷ (codes "ok", 2 ∷ []) ∷ (codes "docs", 2 ∷ 0 ∷ 1 ∷ 1 ∷ 1 ∷ []) ∷ (codes "docs", 1 ∷ 0 ∷ 4 ∷ []) ∷ (codes "docs", 2 ∷ 0 ∷ 2 ∷ 1 ∷ 1 ∷ []) ∷ (codes "docs", 1 ∷ 0 ∷ 1 ∷ []) ∷ (codes "docs", 1 ∷ 0 ∷ 2 ∷ []) ∷ (codes "docs", 0 ∷ []) ∷ (codes "known", []) ∷ (codes "ok", 0 ∷ []) ∷ [])
documents = refl

-- a kept graph stays as it was, and a graph that was not kept has no search
graphs : replies graph_reply graph_after no_graphs (
    graph.Add 1 (pair 1 2 ∷ pair 2 3 ∷ pair 1 3 ∷ []) ∷
    graph.Keep 2 ∷
    graph.Cut 3 (pair 1 3 ∷ []) ∷
    graph.Bfs 4 0 1 ∷
    graph.Now 5 1 ∷
    graph.Now 6 7 ∷
    graph.Bfs 7 1 1 ∷
    graph.Degree 8 1 ∷
    graph.Size 9 ∷
    []) ≡ lines (
    (codes "ok", 3 ∷ []) ∷ (codes "kept", 0 ∷ []) ∷ (codes "ok", 2 ∷ []) ∷ (codes "bfs", 3 ∷ 1 ∷ 0 ∷ 2 ∷ 1 ∷ 3 ∷ 1 ∷ []) ∷ (codes "bfs", 3 ∷ 1 ∷ 0 ∷ 2 ∷ 1 ∷ 3 ∷ 2 ∷ []) ∷ (codes "bfs", 1 ∷ 7 ∷ 0 ∷ []) ∷ (codes "none", []) ∷ (codes "degree", 1 ∷ []) ∷ (codes "graph", 2 ∷ 2 ∷ []) ∷ [])
graphs = refl
