use Rattle.tree_entry.proofs.sides.with_right_side.Goals as goal

pub join_owned-requires-clause-below : goal.join_owned-requires-clause-below
join_owned-requires-clause-below g c = rw (c.in_ok-key.ensures.key, c.in_ok-key.ensures.side) c.requires.below

pub join_owned-requires-clause-above : goal.join_owned-requires-clause-above
join_owned-requires-clause-above g c = rw c.in_ok-key.ensures.key c.requires.above

pub returns-clause-entries : goal.returns-clause-entries
returns-clause-entries g c = rw (c.in_ok-key.ensures.key, c.in_ok-key.ensures.val, c.in_ok-key.ensures.side) at c.join_owned.ensures.entries

pub returns-clause-cost : goal.returns-clause-cost
returns-clause-cost g c = rw c.in_ok-key.ensures.side at c.join_owned.ensures.cost
