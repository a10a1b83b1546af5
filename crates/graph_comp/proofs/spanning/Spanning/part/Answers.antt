use Rattle.std.proofs.Common.{◌≡◌, ◌++◌, ◌∙◌, [], arith, drop, length, subst, sym, take}
use Rattle.std.proofs.lemmas.Grind.{common_steps}
use Rattle.graph_comp.specs.Forests.{Spans}
use Rattle.graph_comp.proofs.Spans.{spans_none}
use Rattle.graph_comp.proofs.spanning.Spanning.part.Goals as goal

pub unite_ends-requires-clause-none : goal.unite_ends-requires-clause-none
unite_ends-requires-clause-none c =
    let vertices = c.args.self.now.vertices.now in
    subst (Spans vertices []) (sym c.as_mut_slice.ensures.value) (spans_none vertices c.in_ok-parents.parents.items c.in_ok-parents.ensures.len c.in_ok-parents.ensures.alone)

pub returns : goal.returns
returns c =
    let items = c.in_ok-parents.parents.items in
    let new = c.unite_ends.new.parents in
    let long : length new ≡ length items = c.unite_ends.ensures.whole ∙ sym c.in_ok-parents.ensures.len in
    let whole : take c.in_ok-parents.parents.len (new ++ drop (length new) items) ≡ new = grind (arith, common_steps) in
    subst (Spans c.args.self.now.vertices.now c.args.part.now) (sym whole) c.unite_ends.ensures
