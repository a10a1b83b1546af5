use Rattle.std.proofs.Common.{◌≡◌, drop}
use Rattle.csv.specs.Records.{fields_of}
use Rattle.index_tool.specs.Terms.{terms_of}
use Rattle.script.proofs.CommandFacts.{with_front}
use Rattle.index_tool.proofs.term_fields.terms_from.Given as goal

abbrev pub invariant-loop-place : goal.invariant-loop-place
invariant-loop-place l = terms_of (drop 1 (fields_of l.row)) ≡ with_front l.terms.items (terms_of (drop l.place (fields_of l.row)))
