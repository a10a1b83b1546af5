use Rattle.std.proofs.Common.{◌≡◌}
use Rattle.serving_tests.proofs.rings.all_items_come_in_order.Given as goal

abbrev pub invariant-loop-item : goal.invariant-loop-item
invariant-loop-item g l = l.submitter.lane ≡ l.intake.lane
