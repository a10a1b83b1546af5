use Rattle.std.proofs.Common.{◌∙◌, arith, sym}
use Rattle.csv.specs.Records.{fields_of}
use Rattle.serve_script.proofs.WordFacts.{number-next}
use Rattle.serve_script.proofs.words.next_number.Goals as goal

pub returns : goal.returns
returns c = c.number_at.ensures ∙ sym (number-next (fields_of c.args.row.now) c.args.place (omega arith))
