use Rattle.std.proofs.Common.{◌≡◌, ◌<◌, ◌^◌, drop}
use Rattle.script.specs.Numbers.{digits_after}
use Rattle.script.proofs.numbers.digits.Given as goal

abbrev pub invariant-loop-digit : goal.invariant-loop-digit
invariant-loop-digit l = record { fits : l.value < 2 ^ 64; same : digits_after 0 l.text ≡ digits_after l.value (drop l.digit-index l.text) }
