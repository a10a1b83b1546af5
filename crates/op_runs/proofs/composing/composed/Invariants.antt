use Rattle.std.proofs.Common.{◌≡◌, ◌++◌, drop}
use Rattle.op_runs.proofs.Merging.{merged_from}
use Rattle.op_runs.proofs.composing.composed.Given as goal

abbrev pub invariant-loop-next : goal.invariant-loop-next
invariant-loop-next l = l.out.items ++ merged_from l.key l.outcome (drop l.next-index l.rest) ≡ merged_from l.initial.key l.initial.outcome l.rest
