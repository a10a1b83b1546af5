use Rattle.std.proofs.Common.{arith}
use Rattle.std.proofs.lemmas.Grind.{common_steps}
use Rattle.seq_core.proofs.turns.repair_beside.Goals as goal

pub turn_twice-requires-clause-large : goal.turn_twice-requires-clause-large
turn_twice-requires-clause-large g c = grind (arith, common_steps)

pub turn_twice-requires-clause-repairable : goal.turn_twice-requires-clause-repairable
turn_twice-requires-clause-repairable g c = grind (arith, common_steps)

pub turn_twice-requires-clause-unbalanced : goal.turn_twice-requires-clause-unbalanced
turn_twice-requires-clause-unbalanced g c = grind (arith, common_steps)

pub turn_twice-requires-clause-not_single : goal.turn_twice-requires-clause-not_single
turn_twice-requires-clause-not_single g c = grind (arith, common_steps)
