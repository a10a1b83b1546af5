use Rattle.std.proofs.Common.{refl}
use Rattle.csv.specs.Records.{fields_of}
use Rattle.script.proofs.FieldFacts.{field_or_nothing}
use Rattle.script.proofs.fields.field_at.Goals as goal

pub returns : goal.returns
returns c = rw c.unwrap_or.ensures (field_or_nothing (fields_of c.args.row.now) c.args.place c.get.result _ refl c.get.ensures.value)
