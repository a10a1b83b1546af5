use Rattle.std.proofs.Common.{rules, ◌≡◌, sym, ◌+◌, ◌-◌, ◌*◌, ◌^◌, ◌≤◌, true, get_or, arith}
use Rattle.script.specs.Numbers.{is_digit}
use Rattle.script.proofs.NumberFacts.{digits-end, digits-full}
use Rattle.script.proofs.numbers.digits.Goals as goal

pub returns-in_err-checked_mul : goal.returns-in_err-checked_mul
returns-in_err-checked_mul c =
    let is : is_digit (get_or c.args.text.now c.loop-digit.digit-index 0) ≡ true = search rules in
    let full : 2 ^ 64 ≤ c.loop-digit.value * 10 + (get_or c.args.text.now c.loop-digit.digit-index 0 - 48) = omega (arith, c.in_err-checked_mul.ensures) in
    rw c.from_residual.ensures (sym (digits-full c.args.text.now c.loop-digit.digit-index c.loop-digit.value 0 (omega arith) is c.loop-digit.invariant.same full))

pub returns-in_err-value : goal.returns-in_err-value
returns-in_err-value c =
    let is : is_digit (get_or c.args.text.now c.loop-digit.digit-index 0) ≡ true = search rules in
    let full : 2 ^ 64 ≤ c.loop-digit.value * 10 + (get_or c.args.text.now c.loop-digit.digit-index 0 - 48) = omega (arith, c.in_err-value.ensures, c.in_ok-checked_mul.ensures, c.from.ensures) in
    rw c.from_residual-in_err-value.ensures (sym (digits-full c.args.text.now c.loop-digit.digit-index c.loop-digit.value 0 (omega arith) is c.loop-digit.invariant.same full))

pub returns : goal.returns
returns c = sym (digits-end c.args.text.now c.loop-digit.digit-index c.loop-digit.value 0 (omega arith) c.loop-digit.invariant.fits c.loop-digit.invariant.same)
