use Rattle.std.proofs.Common.{◌≡◌, ap}
use Rattle.tree_join.proofs.joins.join_lent.Goals as goal

pub join-requires-clause-below : goal.join-requires-clause-below
join-requires-clause-below g c =
    let same : c.in_ok-key.key ≡ c.args.key.now = ap (λ (e : g.row.M-Key.Denot × g.row.M-Val.Denot). e.0) c.in_ok-key.ensures.value in
    rw same c.requires.below

pub join-requires-clause-above : goal.join-requires-clause-above
join-requires-clause-above g c =
    let same : c.in_ok-key.key ≡ c.args.key.now = ap (λ (e : g.row.M-Key.Denot × g.row.M-Val.Denot). e.0) c.in_ok-key.ensures.value in
    rw same c.requires.above

pub returns-clause-entries : goal.returns-clause-entries
returns-clause-entries g c = rw c.in_ok-key.ensures.value at c.join.ensures.entries
