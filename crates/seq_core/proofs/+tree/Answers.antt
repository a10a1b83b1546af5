use Rattle.std.proofs.Common.{arith}
use Rattle.seq_core.proofs.+tree.Goals as goal

pub seq_core++tree++Node+Destruct::drop-drop-requires-2 :
    goal.seq_core++tree++Node+Destruct::drop-drop-requires-2
seq_core++tree++Node+Destruct::drop-drop-requires-2 g t c κs = λ k. (omega (arith, c.decreases), k)

pub seq_core++tree++Node+Destruct::drop-drop-requires-3 :
    goal.seq_core++tree++Node+Destruct::drop-drop-requires-3
seq_core++tree++Node+Destruct::drop-drop-requires-3 g t c κs = λ k. (omega (arith, c.decreases), k)
