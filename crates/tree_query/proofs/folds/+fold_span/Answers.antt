use Rattle.std.proofs.Common.{◌≡◌, ◌<◌, length, false, sym, ap, ap₂, ◌∙◌, arith, rules}
use Rattle.std.proofs.lemmas.Result.{IfOk-weaker}
use Rattle.map_model.specs.Fold.{fold_of}
use Rattle.tree_query.specs.Within.{within, is_all}
use Rattle.tree_query.proofs.Sides.{left_shorter, right_shorter}
use Rattle.tree_query.proofs.Costs.{cost_aside, cost_inside, cost_block}
use Rattle.tree_query.proofs.Ranges.{within-whole, within-before, within-after}
use Rattle.tree_query.proofs.Nodes.{fold_inside}
use Rattle.tree_query.proofs.folds.+fold_span.Goals as goal

pub returns-then-is_all-clause-value : goal.returns-then-is_all-clause-value
returns-then-is_all-clause-value g t c =
    let augment = g.M.Augment.Augment in
    let whole = within-whole g.M.Key.Ord.cmp c.args.span.range c.args.span.tree.now.entries (sym c.is_all.ensures ∙ c.if-is_all.true) in
    IfOk-weaker c.whole_fold.result _ _ (λ x h. h ∙ ap (fold_of augment.base_of augment.unit_of augment.combined) (sym whole)) c.whole_fold.ensures.value

pub returns-then-ends_before-clause-value : goal.returns-then-ends_before-clause-value
returns-then-ends_before-clause-value g t c =
    let augment = g.M.Augment.Augment in
    let node = c.in-Node.ensures.top in
    let part = ap (within g.M.Key.Ord.cmp c.args.span.range) node.entries_are ∙ within-before g.met.M.Key.Ord.total c.args.span.range c.in-Node.left.now.entries c.in-Node.key.now c.in-Node.val.now c.in-Node.right.now.entries node.increasing (sym c.ends_before.ensures.value ∙ c.if-ends_before.true) in
    IfOk-weaker c.fold_span.result _ _ (λ x h. h ∙ ap (fold_of augment.base_of augment.unit_of augment.combined) (sym part)) c.fold_span.ensures.value

pub returns-then-begins_after-clause-value : goal.returns-then-begins_after-clause-value
returns-then-begins_after-clause-value g t c =
    let augment = g.M.Augment.Augment in
    let node = c.in-Node.ensures.top in
    let part = ap (within g.M.Key.Ord.cmp c.args.span.range) node.entries_are ∙ within-after g.met.M.Key.Ord.total c.args.span.range c.in-Node.left.now.entries c.in-Node.key.now c.in-Node.val.now c.in-Node.right.now.entries node.increasing (sym c.begins_after.ensures.value ∙ c.if-begins_after.true) in
    IfOk-weaker c.fold_span-then-begins_after.result _ _ (λ x h. h ∙ ap (fold_of augment.base_of augment.unit_of augment.combined) (sym part)) c.fold_span-then-begins_after.ensures.value

pub returns-in_ok-after-in-Node-clause-value : goal.returns-in_ok-after-in-Node-clause-value
returns-in_ok-after-in-Node-clause-value g t c =
    let law = g.met.M.Augment.Augment in
    let augment = g.M.Augment.Augment in
    let node = c.in-Node.ensures.top in
    let before = rw c.left_part.ensures at c.in_ok-before-in-Node.ensures.value in
    let after = rw c.right_part.ensures at c.in_ok-after-in-Node.ensures.value in
    let parts = fold_inside g.met.M.Key.Ord.total law.monoid law.base_fits c.args.span.range c.args.span.tree.now.entries c.in-Node.left.now.entries c.in-Node.key.now c.in-Node.val.now c.in-Node.right.now.entries node.entries_are node.increasing (sym c.ends_before.ensures.value ∙ c.if-ends_before.false) (sym c.begins_after.ensures.value ∙ c.if-begins_after.false) in
    IfOk-weaker c.fold_around.result _ _ (λ x h. h ∙ ap₂ (λ l r. augment.combined (augment.combined l (augment.base_of c.in-Node.key.now c.in-Node.val.now)) r) before after ∙ sym parts) c.fold_around.ensures.value

pub returns-in-Block-clause-cost : goal.returns-in-Block-clause-cost
returns-in-Block-clause-cost g t c =
    let block = c.in-Block.ensures.top in
    let some : is_all c.args.span.range ≡ false = sym c.is_all.ensures ∙ c.if-is_all.false in
    omega (arith, cost_block g.M.Shape.BLOCK (length (g.M.Leaf.Leaf.entries c.in-Block.leaf.now)) c.args.span.tree.now.height block.short c.args.span.range some, c.fold_block.ensures.cost)

pub returns-then-ends_before-clause-cost : goal.returns-then-ends_before-clause-cost
returns-then-ends_before-clause-cost g t c =
    let some : is_all c.args.span.range ≡ false = sym c.is_all.ensures ∙ c.if-is_all.false in
    let lower : c.in-Node.left.now.height < c.args.span.tree.now.height = omega (arith, c.in-Node.ensures.top.height_is) in
    omega (arith, cost_aside g.M.Shape.BLOCK c.in-Node.left.now.height c.args.span.tree.now.height lower c.args.span.range some, c.ends_before.ensures.cost, c.fold_span.ensures.cost)

pub returns-then-begins_after-clause-cost : goal.returns-then-begins_after-clause-cost
returns-then-begins_after-clause-cost g t c =
    let some : is_all c.args.span.range ≡ false = sym c.is_all.ensures ∙ c.if-is_all.false in
    let lower : c.in-Node.right.now.height < c.args.span.tree.now.height = omega (arith, c.in-Node.ensures.top.height_is) in
    omega (arith, cost_aside g.M.Shape.BLOCK c.in-Node.right.now.height c.args.span.tree.now.height lower c.args.span.range some, c.ends_before.ensures.cost, c.begins_after.ensures.cost, c.fold_span-then-begins_after.ensures.cost)

pub returns-in_err-before-in-Node-clause-cost : goal.returns-in_err-before-in-Node-clause-cost
returns-in_err-before-in-Node-clause-cost g t c =
    let some : is_all c.args.span.range ≡ false = sym c.is_all.ensures ∙ c.if-is_all.false in
    let left_lower : c.in-Node.left.now.height < c.args.span.tree.now.height = omega (arith, c.in-Node.ensures.top.height_is) in
    let right_lower : c.in-Node.right.now.height < c.args.span.tree.now.height = omega (arith, c.in-Node.ensures.top.height_is) in
    let sides = cost_inside g.M.Shape.BLOCK c.in-Node.left.now.height c.in-Node.right.now.height c.args.span.tree.now.height left_lower right_lower c.args.span.range some in
    omega (arith, sides, c.ends_before.ensures.cost, c.begins_after.ensures.cost, rw c.left_part.ensures at c.in_err-before-in-Node.ensures.cost)

pub returns-in_err-after-in-Node-clause-cost : goal.returns-in_err-after-in-Node-clause-cost
returns-in_err-after-in-Node-clause-cost g t c =
    let some : is_all c.args.span.range ≡ false = sym c.is_all.ensures ∙ c.if-is_all.false in
    let left_lower : c.in-Node.left.now.height < c.args.span.tree.now.height = omega (arith, c.in-Node.ensures.top.height_is) in
    let right_lower : c.in-Node.right.now.height < c.args.span.tree.now.height = omega (arith, c.in-Node.ensures.top.height_is) in
    let sides = cost_inside g.M.Shape.BLOCK c.in-Node.left.now.height c.in-Node.right.now.height c.args.span.tree.now.height left_lower right_lower c.args.span.range some in
    omega (arith, sides, c.ends_before.ensures.cost, c.begins_after.ensures.cost, rw c.left_part.ensures at c.in_ok-before-in-Node.ensures.cost, rw c.right_part.ensures at c.in_err-after-in-Node.ensures.cost)

pub returns-in_ok-after-in-Node-clause-cost : goal.returns-in_ok-after-in-Node-clause-cost
returns-in_ok-after-in-Node-clause-cost g t c =
    let some : is_all c.args.span.range ≡ false = sym c.is_all.ensures ∙ c.if-is_all.false in
    let left_lower : c.in-Node.left.now.height < c.args.span.tree.now.height = omega (arith, c.in-Node.ensures.top.height_is) in
    let right_lower : c.in-Node.right.now.height < c.args.span.tree.now.height = omega (arith, c.in-Node.ensures.top.height_is) in
    let sides = cost_inside g.M.Shape.BLOCK c.in-Node.left.now.height c.in-Node.right.now.height c.args.span.tree.now.height left_lower right_lower c.args.span.range some in
    omega (arith, sides, c.ends_before.ensures.cost, c.begins_after.ensures.cost, rw c.left_part.ensures at c.in_ok-before-in-Node.ensures.cost, rw c.right_part.ensures at c.in_ok-after-in-Node.ensures.cost, c.fold_around.ensures.cost)

pub fold_span-requires : goal.fold_span-requires
fold_span-requires g t c κs within =
    let shorter : length c.in-Node.left.now.entries < length c.args.span.tree.now.entries = left_shorter _ _ _ _ c.in-Node.ensures.top.entries_are in
    search rules

pub fold_span-requires-then-begins_after : goal.fold_span-requires-then-begins_after
fold_span-requires-then-begins_after g t c κs within =
    let shorter : length c.in-Node.right.now.entries < length c.args.span.tree.now.entries = right_shorter _ _ _ _ c.in-Node.ensures.top.entries_are in
    search rules

pub fold_span-requires-in-Node : goal.fold_span-requires-in-Node
fold_span-requires-in-Node g t c κs within =
    let shorter : length c.in-Node.left.now.entries < length c.args.span.tree.now.entries = left_shorter _ _ _ _ c.in-Node.ensures.top.entries_are in
    search rules

pub fold_span-requires-in-Node-2 : goal.fold_span-requires-in-Node-2
fold_span-requires-in-Node-2 g t c κs within =
    let shorter : length c.in-Node.right.now.entries < length c.args.span.tree.now.entries = right_shorter _ _ _ _ c.in-Node.ensures.top.entries_are in
    search rules
