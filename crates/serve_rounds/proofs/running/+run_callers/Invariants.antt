use Rattle.std.proofs.Common.{length}
use Rattle.serve_rounds.proofs.running.+run_callers.Given as goal

abbrev pub decreases-join+arg2 : goal.decreases-join+arg2
decreases-join+arg2 g l = length l.front.items

abbrev pub decreases-join+arg3 : goal.decreases-join+arg3
decreases-join+arg3 g l = length l.back.items

abbrev pub decreases-run_callers : goal.decreases-run_callers
decreases-run_callers g l = length l.callers.items
