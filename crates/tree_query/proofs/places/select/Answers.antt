use Rattle.std.proofs.Common.{Some, ◌-◌, ◌+◌, ◌≡◌, sym, ap, ◌∙◌, arith}
use Rattle.std.proofs.lemmas.Result.{IfOk-weaker}
use Rattle.map_model.specs.Parts.{select}
use Rattle.map_model.proofs.Ranges.{select-around_left, select-around_at, select-around_right}
use Rattle.tree_query.proofs.Sides.{left_shorter, right_shorter}
use Rattle.tree_query.proofs.places.select.Goals as goal

pub returns-in-Block-clause-value : goal.returns-in-Block-clause-value
returns-in-Block-clause-value g c =
    let here = c.down.invariant ∙ ap (λ m. select m c.down.at_in) c.in-Block.ensures.top.entries_are in
    IfOk-weaker c.owned.result _ _ (λ x h. h ∙ c.get_at.ensures ∙ sym here) c.owned.ensures.value

pub down-preserved-then-at_in-before : goal.down-preserved-then-at_in-before
down-preserved-then-at_in-before g c =
    c.down.invariant
    ∙ ap (λ m. select m c.down.at_in) c.in-Node.ensures.top.entries_are
    ∙ select-around_left c.in-Node.left.now.entries c.in-Node.key.now c.in-Node.val.now c.in-Node.right.now.entries c.down.at_in (omega (arith, c.size-before.ensures.value, c.if-at_in-before.true))

pub down-smaller-then-at_in-before : goal.down-smaller-then-at_in-before
down-smaller-then-at_in-before g c = left_shorter _ _ _ _ c.in-Node.ensures.top.entries_are

pub returns-then-at_in-before-2-clause-value : goal.returns-then-at_in-before-2-clause-value
returns-then-at_in-before-2-clause-value g c =
    let here = c.down.invariant ∙ ap (λ m. select m c.down.at_in) c.in-Node.ensures.top.entries_are in
    let found = select-around_at c.in-Node.left.now.entries c.in-Node.key.now c.in-Node.val.now c.in-Node.right.now.entries c.down.at_in (c.if-at_in-before-2.true ∙ c.size-before.ensures.value) in
    ap Some c.in_ok-share_entry-in-Node.ensures.value ∙ sym (here ∙ found)

pub down-preserved : goal.down-preserved
down-preserved g c =
    let right = c.in-Node.right.now.entries in
    let before = c.size-before.ensures.value in
    let here = c.down.invariant ∙ ap (λ m. select m c.down.at_in) c.in-Node.ensures.top.entries_are in
    let found = select-around_right c.in-Node.left.now.entries c.in-Node.key.now c.in-Node.val.now right c.down.at_in (omega (arith, before, c.if-at_in-before.false, c.if-at_in-before-2.false)) in
    here ∙ found ∙ ap (λ n. select right n) (omega (arith, before))

pub down-smaller : goal.down-smaller
down-smaller g c = right_shorter _ _ _ _ c.in-Node.ensures.top.entries_are
