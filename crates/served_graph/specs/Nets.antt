-- Edges with what becomes of them.
use Rattle.std.specs.Prelude.{List, [], ◌∷◌}
use Rattle.std.specs.List.{flat_map}
use Rattle.aug_monoid.specs.declared.pair64.Pair64.{Pair64}
use Rattle.graph_snap.specs.declared.edge.Edge.{Edge}
use Rattle.served_graph.specs.declared.fate.Fate.{Fate}
use Rattle.served_graph.specs.declared.fate.Fate.TheVariants as fate
use Rattle.served_graph.specs.declared.op.GraphOp.{GraphOp}
use Rattle.served_graph.specs.declared.op.GraphOp.TheVariants as op

-- an operation's edge, and what becomes of it
abbrev pub fate_of : GraphOp → Pair64 × Fate
fate_of (op.Add from to) = (record { first = from; second = to }, fate.Added)
fate_of (op.Cut from to) = (record { first = from; second = to }, fate.Cut)

abbrev pub if_cut : Pair64 → Fate → List Edge
if_cut key fate.Cut = record { from = key.first; to = key.second } ∷ []
if_cut key fate.Added = []

abbrev pub if_added : Pair64 → Fate → List Edge
if_added key fate.Cut = []
if_added key fate.Added = record { from = key.first; to = key.second } ∷ []

-- of edges with their fates, those that are cut and those that are added
abbrev pub cut_parts : List (Pair64 × Fate) → List Edge
cut_parts entries = flat_map (λ e. if_cut e.0 e.1) entries

abbrev pub added_parts : List (Pair64 × Fate) → List Edge
added_parts entries = flat_map (λ e. if_added e.0 e.1) entries
