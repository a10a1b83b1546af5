use Rattle.tree_shape.proofs.tree.Tree.height.Goals as goal

pub returns-in-Node-clause-law : goal.returns-in-Node-clause-law
returns-in-Node-clause-law g c =
    let is = rw c.in-Node.is at c.self.invariant in
    rw (← c.self.view_is, c.in-Node.is) (rw is.size_is at is.law)
