use Rattle.std.proofs.Common.{◌≡◌, drop}
use Rattle.csv.specs.Records.{fields_of}
use Rattle.script.specs.Fields.{numbers_of}
use Rattle.script.proofs.CommandFacts.{with_front}
use Rattle.script.proofs.lists.numbers_from.Given as goal

abbrev pub invariant-loop-place : goal.invariant-loop-place
invariant-loop-place l = numbers_of (drop 2 (fields_of l.row)) ≡ with_front l.numbers.items (numbers_of (drop l.place (fields_of l.row)))
