use Rattle.std.proofs.Common.{◌∙◌, ap, arith, length, sym}
use Rattle.std.specs.List.{find, range_with_len}
use Rattle.check_input.specs.RunLine.{is_run_line, run_line}
use Rattle.check_input.proofs.Places.{found_here, goes_on, minus-zero, none_left}
use Rattle.check_input.proofs.finding.run_line.Goals as goal

pub loop-at-init : goal.loop-at-init
unfolding run_line
loop-at-init c = record { left = ap (λ n. find (is_run_line c.args.bytes.now) (range_with_len 0 n)) (sym (minus-zero (length c.args.bytes.now))) }

pub loop-at-preserved : goal.loop-at-preserved
loop-at-preserved c = record { left = c.loop-at.invariant.left ∙ goes_on (is_run_line c.args.bytes.now) c.loop-at.at (length c.args.bytes.now) c.loop-at-test.true (sym c.is_run_line.ensures ∙ c.if-is_run_line.false) }

pub returns-then-is_run_line : goal.returns-then-is_run_line
returns-then-is_run_line c =
    sym (c.loop-at.invariant.left ∙ found_here (is_run_line c.args.bytes.now) c.loop-at.at (length c.args.bytes.now) c.loop-at-test.true (sym c.is_run_line.ensures ∙ c.if-is_run_line.true))

pub returns : goal.returns
returns c = sym (c.loop-at.invariant.left ∙ none_left (is_run_line c.args.bytes.now) c.loop-at.at (length c.args.bytes.now) (omega arith))
