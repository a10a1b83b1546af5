use Rattle.std.proofs.Common.{◌∷◌, refl}
use Rattle.map_model.proofs.Keys.{around, IsAround}
use Rattle.tree_join.proofs.ends.first_of_node.Goals as goal

pub join_lent-requires-clause-below : goal.join_lent-requires-clause-below
join_lent-requires-clause-below g c =
    let left = (c.args.taken.key, c.args.taken.val) ∷ c.args.taken.rest.entries in
    let sides : IsAround g.M.Key.Ord.cmp left c.args.key.now c.args.right.now.entries = around g.M.Key.Ord.cmp left c.args.key.now c.args.val.now c.args.right.now.entries c.requires.increasing in
    sides.lower.1

pub join_lent-requires-clause-above : goal.join_lent-requires-clause-above
join_lent-requires-clause-above g c =
    let left = (c.args.taken.key, c.args.taken.val) ∷ c.args.taken.rest.entries in
    let sides : IsAround g.M.Key.Ord.cmp left c.args.key.now c.args.right.now.entries = around g.M.Key.Ord.cmp left c.args.key.now c.args.val.now c.args.right.now.entries c.requires.increasing in
    sides.upper

pub returns-clause-entries : goal.returns-clause-entries
returns-clause-entries g c = rw c.in_ok-joined.ensures.entries refl
