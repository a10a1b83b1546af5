use Rattle.std.proofs.Common.{◌∙◌, ap, subst}
use Rattle.graph_snap.specs.Edges.{pairs_of}
use Rattle.graph_comp.specs.Components.{AreComponents}
use Rattle.graph_comp.proofs.Merged.{determined}
use Rattle.graph_comp.proofs.labelling.components.Goals as goal

pub returns-clause-value : goal.returns-clause-value
returns-clause-value g c =
    let found = c.in_ok-list.list.items in
    determined c.args.graph.now found (subst (λ edges. AreComponents edges found) (ap pairs_of c.deref.ensures.value ∙ c.in_ok-edges.ensures) c.in_ok-list.ensures)

pub returns-clause-least : goal.returns-clause-least
returns-clause-least g c =
    let found = c.in_ok-list.list.items in
    subst (λ edges. AreComponents edges found) (ap pairs_of c.deref.ensures.value ∙ c.in_ok-edges.ensures) c.in_ok-list.ensures
