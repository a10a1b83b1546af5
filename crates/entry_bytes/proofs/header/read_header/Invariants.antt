use Rattle.std.proofs.Common.{◌≡◌, ◌-◌, ◌≤◌, take}
use Rattle.entry_bytes.specs.Format.{header}
use Rattle.entry_bytes.proofs.header.read_header.Given as goal

abbrev pub invariant-loop-at : goal.invariant-loop-at
invariant-loop-at l = (l.at ≤ 6) × (take l.at l.bytes ≡ take l.at header)

abbrev pub decreases-loop-at : goal.decreases-loop-at
decreases-loop-at l = 6 - l.at
