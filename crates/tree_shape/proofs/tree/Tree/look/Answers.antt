use Rattle.std.proofs.Common.{refl}
use Rattle.tree_shape.proofs.Looks.{looks_at_block, looks_at_node}
use Rattle.tree_shape.proofs.tree.Tree.look.Goals as goal

pub returns-in-Empty : goal.returns-in-Empty
returns-in-Empty g c = record { top = rw (← c.self.view_is, c.in-Empty.is) refl }

pub returns-in-Block : goal.returns-in-Block
returns-in-Block g c =
    let is = rw c.in-Block.is at c.self.invariant in
    record { top = rw (← c.self.view_is, c.in-Block.is, c.deref.ensures) (looks_at_block _ _ is) }

pub returns-in-Node : goal.returns-in-Node
returns-in-Node g c =
    let is = rw c.in-Node.is at c.self.invariant in
    record { top = rw (← c.self.view_is, c.in-Node.is, c.deref-in-Node.ensures, c.deref-in-Node-2.ensures, c.deref-in-Node-3.ensures, c.deref-in-Node-4.ensures) (looks_at_node _ _ _ _ _ _ _ is) }
