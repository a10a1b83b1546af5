use Rattle.std.proofs.Common.{ap}
use Rattle.tree_cut.proofs.exposing.shared_sides.Goals as goal

pub returns-clause-key : goal.returns-clause-key
returns-clause-key g c = ap (λ (e : g.row.M-Key.Denot × g.row.M-Val.Denot). e.0) c.in_ok-key.ensures.value

pub returns-clause-val : goal.returns-clause-val
returns-clause-val g c = ap (λ (e : g.row.M-Key.Denot × g.row.M-Val.Denot). e.1) c.in_ok-key.ensures.value
