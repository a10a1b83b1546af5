use Rattle.std.proofs.Common.{arith, inl, inr, refl}
use Rattle.entry_bytes.specs.Format.{header}
use Rattle.entry_bytes.proofs.Begun.{header_more, header_whole}
use Rattle.entry_bytes.proofs.header.read_header.Goals as goal

pub loop-at-preserved : goal.loop-at-preserved
unfolding header
loop-at-preserved c = (omega arith, header_more c.args.bytes.now c.loop-at.at (omega arith) (omega arith) c.loop-at.invariant.1 c.if-bytes-at.false)

pub returns-then-at-bytes : goal.returns-then-at-bytes
returns-then-at-bytes c = record { at = c.loop-at.at; within = omega arith; before = c.loop-at.invariant.1; next = inl (omega arith, refl) }

pub returns-then-bytes-at : goal.returns-then-bytes-at
unfolding header
returns-then-bytes-at c = record { at = c.loop-at.at; within = omega arith; before = c.loop-at.invariant.1; next = inr (omega arith, c.if-bytes-at.true, c.fault_at.ensures) }

pub returns : goal.returns
returns c = header_whole c.args.bytes.now c.loop-at.at (omega arith) (omega arith) c.loop-at.invariant.1
