use Rattle.std.proofs.Common.{◌∙◌}
use Rattle.graph_comp.proofs.Ends.{keys_are_ends}
use Rattle.graph_comp.proofs.vertices.vertices_of.Goals as goal

pub returns : goal.returns
returns g c = c.in_ok-vertices.ensures ∙ keys_are_ends c.args.edges.now c.deref.result.now (c.deref.ensures.value ∙ c.in_ok-keys.ensures)
