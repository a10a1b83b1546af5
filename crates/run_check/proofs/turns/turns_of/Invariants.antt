use Rattle.run_check.proofs.TurnLists.{HaveSomeTurns}
use Rattle.run_check.proofs.turns.turns_of.Given as goal

abbrev pub invariant-loop-at : goal.invariant-loop-at
invariant-loop-at g l = HaveSomeTurns l.reads l.at l.turns.items
