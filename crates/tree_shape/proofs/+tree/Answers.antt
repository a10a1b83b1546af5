use Rattle.std.proofs.Common.{arith}
use Rattle.tree_shape.proofs.+tree.Goals as goal

pub tree_shape++tree++Node+Destruct::drop-drop-requires-2 :
    goal.tree_shape++tree++Node+Destruct::drop-drop-requires-2
tree_shape++tree++Node+Destruct::drop-drop-requires-2 g t c κs = λ k. (omega (arith, c.decreases), k)

pub tree_shape++tree++Node+Destruct::drop-drop-requires-3 :
    goal.tree_shape++tree++Node+Destruct::drop-drop-requires-3
tree_shape++tree++Node+Destruct::drop-drop-requires-3 g t c κs = λ k. (omega (arith, c.decreases), k)
