use Rattle.std.proofs.lemmas.Grind.{common_steps}
use Rattle.std.proofs.Common.{rules, ◌*◌, ◌^◌, [], length, map, ap, arith}
use Rattle.std.specs.Vec.Iter.{into_iter_items}
use Rattle.tree_shape.proofs.Halves.{front_shorter, back_shorter, front_under, back_under, whole_increasing, front_increasing, back_increasing, middle_balanced, middle_fills, middle_cost, sides_cost}
use Rattle.tree_shape.proofs.LeafLists.{front_begins, back_begins, both_taken, some, next, left}
use Rattle.tree_shape.proofs.Refusals.{refused}
use Rattle.std.proofs.lemmas.Result.{IfOk-weaker}
use Rattle.tree_shape.proofs.tree.Tree.+take_over.Goals as goal

pub take_over-requires : goal.take_over-requires
take_over-requires g t c κs within =
    let shorter = front_shorter c.cut_middle.ensures in
    let rises = front_increasing g.M.Key.Ord.cmp c.cut_middle.ensures c.requires.increasing in
    let few = front_under c.cut_middle.ensures (2 ^ 60) c.requires.fits in
    let theirs = front_begins (2 * g.M.Shape.BLOCK) c.cut_middle.ensures (omega (arith, c.if-from-BLOCK.false)) (map g.M.Leaf.Leaf.entries (into_iter_items c.args.leaves.now)) c.requires.theirs in
    (search rules, (within.0, (within.1.0, (within.1.1.0, (within.1.1.1.0, (within.1.1.1.1.0, (within.1.1.1.1.1.0, (within.1.1.1.1.1.1, (rises, (few, theirs))))))))))

pub take_over-requires-2 : goal.take_over-requires-2
take_over-requires-2 g t c κs within =
    let shorter = back_shorter c.cut_middle.ensures in
    let rises = back_increasing g.M.Key.Ord.cmp c.cut_middle.ensures c.requires.increasing in
    let few = back_under c.cut_middle.ensures (2 ^ 60) c.requires.fits in
    let theirs = back_begins (2 * g.M.Shape.BLOCK) c.cut_middle.ensures (omega (arith, c.if-from-BLOCK.false)) (map g.M.Leaf.Leaf.entries (into_iter_items c.args.leaves.now)) (map g.M.Leaf.Leaf.entries (into_iter_items c.take_over.new.leaves)) c.requires.theirs c.in_ok-left.ensures.taken in
    (search rules, (within.0, (within.1.0, (within.1.1.0, (within.1.1.1.0, (within.1.1.1.1.0, (within.1.1.1.1.1.0, (within.1.1.1.1.1.1, (rises, (few, theirs))))))))))

pub cut_middle-requires : goal.cut_middle-requires
cut_middle-requires g t c = omega (arith, c.if-from-BLOCK.false)

pub returns-clause-entries : goal.returns-clause-entries
returns-clause-entries g t c =
    rw c.cut_middle.ensures.whole (rw (c.in_ok-left.ensures.entries, c.in_ok-right.ensures.entries) at c.node_around.ensures.entries)

pub returns-clause-taken : goal.returns-clause-taken
returns-clause-taken g t c =
    IfOk-weaker c.node_around.result _ _ (λ _ _. both_taken (2 * g.M.Shape.BLOCK) c.cut_middle.ensures (omega (arith, c.if-from-BLOCK.false)) (map g.M.Leaf.Leaf.entries (into_iter_items c.args.leaves.now)) (map g.M.Leaf.Leaf.entries (into_iter_items c.take_over.new.leaves)) (map g.M.Leaf.Leaf.entries (into_iter_items c.take_over-2.new.leaves)) c.in_ok-left.ensures.taken c.in_ok-right.ensures.taken) c.node_around.ensures.entries

pub returns-in_err-left-clause-entries : goal.returns-in_err-left-clause-entries
returns-in_err-left-clause-entries g t c = refused c.from_residual.result _ _ c.from_residual.ensures.1

pub returns-in_err-left-clause-taken : goal.returns-in_err-left-clause-taken
returns-in_err-left-clause-taken g t c = refused c.from_residual.result _ _ c.from_residual.ensures.1

pub returns-in_err-right-clause-entries : goal.returns-in_err-right-clause-entries
returns-in_err-right-clause-entries g t c = refused c.from_residual-in_err-right.result _ _ c.from_residual-in_err-right.ensures.1

pub returns-in_err-right-clause-taken : goal.returns-in_err-right-clause-taken
returns-in_err-right-clause-taken g t c = refused c.from_residual-in_err-right.result _ _ c.from_residual-in_err-right.ensures.1

pub returns-in_err-right-clause-cost : goal.returns-in_err-right-clause-cost
returns-in_err-right-clause-cost g t c =
    sides_cost c.cut_middle.ensures _ _ _ c.in_ok-left.ensures.cost c.in_err-right.ensures.cost

pub node_around-requires-clause-increasing : goal.node_around-requires-clause-increasing
node_around-requires-clause-increasing g t c =
    rw (c.in_ok-left.ensures.entries, c.in_ok-right.ensures.entries) (whole_increasing g.M.Key.Ord.cmp c.cut_middle.ensures c.requires.increasing)

pub node_around-requires-clause-balanced : goal.node_around-requires-clause-balanced
node_around-requires-clause-balanced g t c =
    rw (c.in_ok-left.ensures.entries, c.in_ok-right.ensures.entries) (middle_balanced c.cut_middle.ensures)

pub node_around-requires-clause-filled : goal.node_around-requires-clause-filled
node_around-requires-clause-filled g t c =
    rw (c.in_ok-left.ensures.entries, c.in_ok-right.ensures.entries) (middle_fills c.cut_middle.ensures g.M.Shape.BLOCK (omega (arith, c.if-from-BLOCK.false)))

pub returns-clause-cost : goal.returns-clause-cost
returns-clause-cost g t c =
    middle_cost c.cut_middle.ensures _ _ _ _ c.in_ok-left.ensures.cost c.in_ok-right.ensures.cost c.node_around.ensures.cost

pub unreachable-requires : goal.unreachable-requires
unreachable-requires g t c =
    let some = some g.M.Leaf.Leaf.entries (2 * g.M.Shape.BLOCK) c.args.from.now (omega (arith, c.if-from-BLOCK.true)) (into_iter_items c.args.leaves.now) [] c.requires.theirs in
    grind (arith, common_steps)

pub block_or_none-requires-clause-increasing : goal.block_or_none-requires-clause-increasing
block_or_none-requires-clause-increasing g t c =
    let is = next g.M.Leaf.Leaf.entries (2 * g.M.Shape.BLOCK) c.args.from.now (omega (arith, c.if-from-BLOCK.true)) (into_iter_items c.args.leaves.now) (into_iter_items c.next.new.self) c.requires.theirs c.in-Some.leaf c.in-Some.ensures.items in
    rw is c.requires.increasing

pub block_or_none-requires-clause-short : goal.block_or_none-requires-clause-short
block_or_none-requires-clause-short g t c =
    let is = next g.M.Leaf.Leaf.entries (2 * g.M.Shape.BLOCK) c.args.from.now (omega (arith, c.if-from-BLOCK.true)) (into_iter_items c.args.leaves.now) (into_iter_items c.next.new.self) c.requires.theirs c.in-Some.leaf c.in-Some.ensures.items in
    omega (arith, ap (λ l. length l) is, c.if-from-BLOCK.true)

pub returns-then-from-BLOCK-clause-entries : goal.returns-then-from-BLOCK-clause-entries
returns-then-from-BLOCK-clause-entries g t c =
    let is = next g.M.Leaf.Leaf.entries (2 * g.M.Shape.BLOCK) c.args.from.now (omega (arith, c.if-from-BLOCK.true)) (into_iter_items c.args.leaves.now) (into_iter_items c.next.new.self) c.requires.theirs c.in-Some.leaf c.in-Some.ensures.items in
    rw is at c.block_or_none.ensures.entries

pub returns-then-from-BLOCK-clause-taken : goal.returns-then-from-BLOCK-clause-taken
returns-then-from-BLOCK-clause-taken g t c =
    IfOk-weaker c.block_or_none.result _ _ (λ _ _. left g.M.Leaf.Leaf.entries (2 * g.M.Shape.BLOCK) c.args.from.now (omega (arith, c.if-from-BLOCK.true)) (into_iter_items c.args.leaves.now) (into_iter_items c.next.new.self) c.requires.theirs c.in-Some.leaf c.in-Some.ensures.items) c.block_or_none.ensures.entries

pub returns-then-from-BLOCK-clause-cost : goal.returns-then-from-BLOCK-clause-cost
returns-then-from-BLOCK-clause-cost g t c =
    let is = next g.M.Leaf.Leaf.entries (2 * g.M.Shape.BLOCK) c.args.from.now (omega (arith, c.if-from-BLOCK.true)) (into_iter_items c.args.leaves.now) (into_iter_items c.next.new.self) c.requires.theirs c.in-Some.leaf c.in-Some.ensures.items in
    omega (arith, rw is at c.block_or_none.ensures.cost)
