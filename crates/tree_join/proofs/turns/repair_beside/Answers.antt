use Rattle.std.proofs.Common.{arith}
use Rattle.std.proofs.lemmas.Grind.{common_steps}
use Rattle.tree_join.proofs.turns.repair_beside.Goals as goal

pub link_lent-requires-in-None-clause-balanced : goal.link_lent-requires-in-None-clause-balanced
link_lent-requires-in-None-clause-balanced g c = grind (arith, common_steps)

pub turn_once-requires-clause-increasing : goal.turn_once-requires-clause-increasing
turn_once-requires-clause-increasing g c = rw c.sides_of-sides.ensures.entries at c.requires.increasing

pub turn_once-requires-clause-balances : goal.turn_once-requires-clause-balances
turn_once-requires-clause-balances g c = grind (arith, common_steps)

pub turn_twice-requires-clause-increasing : goal.turn_twice-requires-clause-increasing
turn_twice-requires-clause-increasing g c = rw c.sides_of-sides.ensures.entries at c.requires.increasing

pub turn_twice-requires-clause-large : goal.turn_twice-requires-clause-large
turn_twice-requires-clause-large g c = grind (arith, common_steps)

pub turn_twice-requires-clause-repairable : goal.turn_twice-requires-clause-repairable
turn_twice-requires-clause-repairable g c = grind (arith, common_steps)

pub turn_twice-requires-clause-unbalanced : goal.turn_twice-requires-clause-unbalanced
turn_twice-requires-clause-unbalanced g c = grind (arith, common_steps)

pub turn_twice-requires-clause-not_single : goal.turn_twice-requires-clause-not_single
turn_twice-requires-clause-not_single g c = grind (arith, common_steps)

pub returns-in-Single-clause-entries : goal.returns-in-Single-clause-entries
returns-in-Single-clause-entries g c = rw c.sides_of-sides.ensures.entries c.turn_once.ensures.entries

pub returns-in-Double-clause-entries : goal.returns-in-Double-clause-entries
returns-in-Double-clause-entries g c = rw c.sides_of-sides.ensures.entries c.turn_twice.ensures.entries
