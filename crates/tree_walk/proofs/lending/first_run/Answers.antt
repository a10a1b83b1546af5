use Rattle.std.proofs.Common.{◌++◌, ap, refl, sym, ◌∙◌}
use Rattle.tree_walk.specs.Aheads.{behind}
use Rattle.tree_walk.specs.declared.ahead.Following.{Following}
use Rattle.tree_walk.proofs.Ways.{leads_left}
use Rattle.tree_walk.proofs.lending.first_run.Goals as goal

pub returns-in-Empty : goal.returns-in-Empty
returns-in-Empty g c rest =
    let leads = c.down.invariant rest in
    (leads.0, leads.1 ∙ ap (λ l. l ++ behind c.down.ahead leads.0) c.in-Empty.ensures.top)

pub returns-in-Block : goal.returns-in-Block
returns-in-Block g c rest =
    let leads = c.down.invariant rest in
    (leads.0, leads.1 ∙ ap (λ l. l ++ behind c.down.ahead leads.0) (c.in-Block.ensures.top.entries_are ∙ sym c.as_slice.ensures))

pub down-preserved : goal.down-preserved
down-preserved g c =
    let entry : Following _ g.row.M-Key.Denot g.row.M-Val.Denot _ _ _ = record { key = c.in-Node.key; val = c.in-Node.val; side = c.in-Node.right } in
    rw c.nearer-ahead.ensures (leads_left c.down.part.now.entries c.in-Node.left.now.entries entry c.in-Node.ensures.top.entries_are c.down.ahead c.args.tree.now.entries c.args.follows c.down.invariant)

pub down-init : goal.down-init
down-init g c rest = (rest, refl)
