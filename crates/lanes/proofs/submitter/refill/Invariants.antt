use Rattle.std.proofs.Common.{◌≡◌, ◌≤◌, ◌++◌, length}
use Rattle.rtrb.specs.Ring.{sent, SameProducer}
use Rattle.lanes.proofs.submitter.refill.Given as goal

abbrev pub invariant-loop-ring : goal.invariant-loop-ring
invariant-loop-ring g l =
    SameProducer l.initial.ring l.ring
    × (sent l.ring ++ l.waiting.items ≡ sent l.initial.ring ++ l.initial.waiting.items)
    × (length l.waiting.items ≤ length l.initial.waiting.items)

abbrev pub decreases-loop-ring : goal.decreases-loop-ring
decreases-loop-ring g l = length l.waiting.items
