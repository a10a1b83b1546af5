use Rattle.std.proofs.Common.{◌≡◌, ◌++◌, ◌∙◌, ap, arith, drop, length, subst, sym, take}
use Rattle.std.proofs.lemmas.Grind.{common_steps}
use Rattle.graph_comp.specs.Forests.{Spans}
use Rattle.graph_comp.proofs.Spans.{spans_both}
use Rattle.graph_comp.proofs.spanning.SpanningDivideRefSliceEdgeUnitVecUsize.close.Goals as goal

pub returns-clause-answer : goal.returns-clause-answer
returns-clause-answer g c = λ part front back is near far.
    let vertices = c.args.self.now.vertices.now in
    let items = c.args.left.items in
    let new = c.unite_all.new.parents in
    let long : length new ≡ length items = c.unite_all.ensures.len ∙ ap length c.as_mut_slice.ensures.value in
    let whole : take c.args.left.len (new ++ drop (length new) items) ≡ new = grind (arith, common_steps) in
    let left = subst (Spans vertices front.now) (sym c.as_mut_slice.ensures.value) near in
    let right = subst (Spans vertices back.now) (sym c.as_slice.ensures.value) far in
    subst (Spans vertices part.now) (sym whole) (subst (λ edges. Spans vertices edges new) (sym is)
    (spans_both vertices front.now back.now c.as_mut_slice.result.now c.as_slice.result.now new left right c.unite_all.ensures.forest c.unite_all.ensures.len c.unite_all.ensures.united))
