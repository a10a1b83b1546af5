use Rattle.std.proofs.Common.{◌≡◌, ◌++◌, ◌∙◌, ap, arith, drop, length, subst, sym, take}
use Rattle.std.proofs.lemmas.Grind.{common_steps}
use Rattle.graph_comp.specs.Forests.{IsFlat, Spans}
use Rattle.graph_comp.proofs.Spans.{spans_flat}
use Rattle.graph_comp.proofs.labelling.flat_forest.Goals as goal

pub returns-clause-spans : goal.returns-clause-spans
returns-clause-spans g c =
    let items = c.in_ok-parents.parents.items in
    let new = c.flatten.new.parents in
    let long : length new ≡ length items = c.flatten.ensures.len ∙ ap length c.as_mut_slice.ensures.value in
    let whole : take c.in_ok-parents.parents.len (new ++ drop (length new) items) ≡ new = grind (arith, common_steps) in
    let spans = subst (Spans c.args.vertices.now c.args.edges.now) (sym c.as_mut_slice.ensures.value) c.in_ok-parents.ensures in
    subst (Spans c.args.vertices.now c.args.edges.now) (sym whole)
    (spans_flat c.args.vertices.now c.args.edges.now c.as_mut_slice.result.now new spans c.flatten.ensures.forest c.flatten.ensures.len c.flatten.ensures.same)

pub returns-clause-flat : goal.returns-clause-flat
returns-clause-flat g c =
    let items = c.in_ok-parents.parents.items in
    let new = c.flatten.new.parents in
    let long : length new ≡ length items = c.flatten.ensures.len ∙ ap length c.as_mut_slice.ensures.value in
    let whole : take c.in_ok-parents.parents.len (new ++ drop (length new) items) ≡ new = grind (arith, common_steps) in
    subst IsFlat (sym whole) c.flatten.ensures.flat
