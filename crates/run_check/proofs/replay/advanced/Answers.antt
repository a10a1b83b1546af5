use Rattle.run_check.proofs.States.{stays}
use Rattle.run_check.proofs.replay.advanced.Goals as goal

pub returns-then-done-number-clause-state : goal.returns-then-done-number-clause-state
returns-then-done-number-clause-state g c = stays g.S.State.step c.args.standing.state c.args.batches.now c.args.standing.number c.args.number c.if-done-number.true
