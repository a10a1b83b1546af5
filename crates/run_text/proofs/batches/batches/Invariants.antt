use Rattle.std.proofs.Common.{◌≡◌, ◌++◌, length}
use Rattle.std.specs.Prelude.{All}
use Rattle.run_text.specs.Forms.{IsNumber, numbers_text}
use Rattle.run_text.proofs.batches.batches.Given as goal

abbrev pub invariant-loop-number : goal.invariant-loop-number
invariant-loop-number l = record { is : l.initial.rest ≡ numbers_text 1 l.numbers.items ++ l.rest; fit : All IsNumber l.numbers.items }

abbrev pub decreases-loop-number : goal.decreases-loop-number
decreases-loop-number l = length l.rest
