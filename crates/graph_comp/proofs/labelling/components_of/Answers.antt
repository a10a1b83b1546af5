use Rattle.std.proofs.Common.{◌∙◌, ap, length, rules, subst, sym}
use Rattle.graph_comp.specs.Forests.{HasEnds, IsFlat, IsForest, Spans}
use Rattle.graph_comp.proofs.Ends.{has_ends}
use Rattle.graph_comp.proofs.Labels.{are_components}
use Rattle.graph_comp.proofs.Spans.{parents_within}
use Rattle.graph_comp.proofs.labelling.components_of.Goals as goal

pub flat_forest-requires : goal.flat_forest-requires
flat_forest-requires g c =
    let has : HasEnds c.as_slice-known.result.now c.args.edges.now = has_ends c.args.edges.now c.as_slice-known.result.now (c.as_slice-known.ensures.value ∙ c.in_ok-vertices.ensures) in
    search rules

pub labelled-requires-clause-len : goal.labelled-requires-clause-len
labelled-requires-clause-len g c = ap length c.as_slice.ensures.value ∙ c.in_ok-parents.ensures.spans.whole

pub labelled-requires-clause-within : goal.labelled-requires-clause-within
labelled-requires-clause-within g c =
    parents_within c.as_slice.result.now (length c.as_slice-known.result.now)
    (subst IsForest (sym c.as_slice.ensures.value) c.in_ok-parents.ensures.spans.forest)
    (ap length c.as_slice.ensures.value ∙ c.in_ok-parents.ensures.spans.whole)

pub returns : goal.returns
returns g c = are_components c.args.edges.now c.as_slice-known.result.now c.as_slice.result.now c.in_ok-list.list.items (record {
  are_ends = c.as_slice-known.ensures.value ∙ c.in_ok-vertices.ensures;
  spans = subst (Spans c.as_slice-known.result.now c.args.edges.now) (sym c.as_slice.ensures.value) c.in_ok-parents.ensures.spans;
  flat = subst IsFlat (sym c.as_slice.ensures.value) c.in_ok-parents.ensures.flat;
  vertices_are = c.in_ok-list.ensures.vertices;
  labels_are = c.in_ok-list.ensures.labels;
})
