use Rattle.aug_map.proofs.map.Map.intersect_counted.Goals as goal

pub returns-clause-cost : goal.returns-clause-cost
returns-clause-cost g c = rw c.from_tree.ensures (rw (c.self.view_is, c.b.view_is) at c.combine_counted.ensures.cost)
