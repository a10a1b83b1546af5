use Rattle.std.proofs.Common.{arith}
use Rattle.graph_snap.proofs.Elements.{only_of_one}
use Rattle.graph_snap.proofs.neighbours.only_element.Goals as goal

pub returns-in-Some : goal.returns-in-Some
returns-in-Some c = only_of_one c.args.set.now.entries c.size.result _ c.in-Some.entry c.size.ensures.value (omega arith) c.in_ok-entry.ensures.value c.in-Some.is
