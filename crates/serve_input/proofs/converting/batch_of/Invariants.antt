use Rattle.std.proofs.Common.{◌≡◌, take}
use Rattle.serve_input.proofs.converting.batch_of.Given as goal

abbrev pub invariant-loop-op : goal.invariant-loop-op
invariant-loop-op g l = l.list.items ≡ take l.op-index l.ops
