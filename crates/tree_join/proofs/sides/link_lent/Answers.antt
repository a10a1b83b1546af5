use Rattle.tree_join.proofs.sides.link_lent.Goals as goal

pub link_beside-requires-clause-increasing : goal.link_beside-requires-clause-increasing
link_beside-requires-clause-increasing g c = rw c.in_ok-key.ensures.value c.requires.increasing

pub returns-clause-entries : goal.returns-clause-entries
returns-clause-entries g c = rw c.in_ok-key.ensures.value at c.link_beside.ensures.entries
