use Rattle.std.proofs.Common.{◌≡◌, false, sym, ap, ap₂, ◌∙◌, ◌<◌, length, rules, arith}
use Rattle.std.proofs.lemmas.Result.{IfOk-weaker}
use Rattle.map_model.specs.Fold.{fold_of}
use Rattle.tree_query.specs.Within.{is_all, within}
use Rattle.tree_query.proofs.Costs.{images_aside, images_inside, images_block, images_some, work_aside, work_inside, work_block, work_some}
use Rattle.tree_query.proofs.Images.{costs_of_fewer, cost_of_one}
use Rattle.tree_query.proofs.Sides.{left_shorter, right_shorter}
use Rattle.tree_query.proofs.Ranges.{within-whole, within-before, within-after}
use Rattle.tree_query.proofs.Nodes.{image_inside}
use Rattle.tree_query.proofs.project.+project_span.Goals as goal

pub returns-then-is_all-clause-value : goal.returns-then-is_all-clause-value
returns-then-is_all-clause-value g t c =
    let augment = g.M.Augment.Augment in
    let whole = within-whole g.M.Key.Ord.cmp c.args.span.range c.args.span.tree.now.entries (sym c.is_all.ensures ∙ c.if-is_all.true) in
    IfOk-weaker c.project_whole.result _ _ (λ x h. h ∙ ap (λ m. g.P.Project.image_of c.args.how.now (fold_of augment.base_of augment.unit_of augment.combined m)) (sym whole)) c.project_whole.ensures.value

pub returns-then-ends_before-clause-value : goal.returns-then-ends_before-clause-value
returns-then-ends_before-clause-value g t c =
    let augment = g.M.Augment.Augment in
    let node = c.in-Node.ensures.top in
    let part = ap (within g.M.Key.Ord.cmp c.args.span.range) node.entries_are ∙ within-before g.met.M.Key.Ord.total c.args.span.range c.in-Node.left.now.entries c.in-Node.key.now c.in-Node.val.now c.in-Node.right.now.entries node.increasing (sym c.ends_before.ensures.value ∙ c.if-ends_before.true) in
    IfOk-weaker c.project_span.result _ _ (λ x h. h ∙ ap (λ m. g.P.Project.image_of c.args.how.now (fold_of augment.base_of augment.unit_of augment.combined m)) (sym part)) c.project_span.ensures.value

pub returns-then-begins_after-clause-value : goal.returns-then-begins_after-clause-value
returns-then-begins_after-clause-value g t c =
    let augment = g.M.Augment.Augment in
    let node = c.in-Node.ensures.top in
    let part = ap (within g.M.Key.Ord.cmp c.args.span.range) node.entries_are ∙ within-after g.met.M.Key.Ord.total c.args.span.range c.in-Node.left.now.entries c.in-Node.key.now c.in-Node.val.now c.in-Node.right.now.entries node.increasing (sym c.begins_after.ensures.value ∙ c.if-begins_after.true) in
    IfOk-weaker c.project_span-then-begins_after.result _ _ (λ x h. h ∙ ap (λ m. g.P.Project.image_of c.args.how.now (fold_of augment.base_of augment.unit_of augment.combined m)) (sym part)) c.project_span-then-begins_after.ensures.value

pub returns-in_ok-back-in-Node-clause-value : goal.returns-in_ok-back-in-Node-clause-value
returns-in_ok-back-in-Node-clause-value g t c =
    let law = g.met.M.Augment.Augment in
    let image = g.P.Project.image_of c.args.how.now in
    let combined = g.P.Project.combined c.args.how.now in
    let node = c.in-Node.ensures.top in
    let front = rw c.left_part.ensures at c.in_ok-front-in-Node.ensures.value in
    let back = rw c.right_part.ensures at c.in_ok-back-in-Node.ensures.value in
    let parts = image_inside g.met.M.Key.Ord.total law.monoid law.base_fits image combined (g.met.P.Project.projection c.args.how.now) c.args.span.range c.args.span.tree.now.entries c.in-Node.left.now.entries c.in-Node.key.now c.in-Node.val.now c.in-Node.right.now.entries node.entries_are node.increasing (sym c.ends_before.ensures.value ∙ c.if-ends_before.false) (sym c.begins_after.ensures.value ∙ c.if-begins_after.false) in
    IfOk-weaker c.image_around.result _ _ (λ x h. h ∙ ap₂ (λ l r. combined l (combined (image (g.M.Augment.Augment.base_of c.in-Node.key.now c.in-Node.val.now)) r)) front back ∙ sym parts) c.image_around.ensures.value

pub returns-in-Empty-clause-value : goal.returns-in-Empty-clause-value
returns-in-Empty-clause-value g t c = rw c.in-Empty.ensures.top (rw c.in-Empty.ensures.top at c.project_whole-in-Empty.ensures.value)

pub returns-in-Block-clause-value : goal.returns-in-Block-clause-value
returns-in-Block-clause-value g t c = rw c.in-Block.ensures.top.entries_are c.project_block.ensures.value

pub project_span-requires : goal.project_span-requires
project_span-requires g t c κs within =
    let shorter : length c.in-Node.left.now.entries < length c.args.span.tree.now.entries = left_shorter _ _ _ _ c.in-Node.ensures.top.entries_are in
    search rules

pub project_span-requires-then-begins_after : goal.project_span-requires-then-begins_after
project_span-requires-then-begins_after g t c κs within =
    let shorter : length c.in-Node.right.now.entries < length c.args.span.tree.now.entries = right_shorter _ _ _ _ c.in-Node.ensures.top.entries_are in
    search rules

pub project_span-requires-in-Node : goal.project_span-requires-in-Node
project_span-requires-in-Node g t c κs within =
    let shorter : length c.in-Node.left.now.entries < length c.args.span.tree.now.entries = left_shorter _ _ _ _ c.in-Node.ensures.top.entries_are in
    search rules

pub project_span-requires-in-Node-2 : goal.project_span-requires-in-Node-2
project_span-requires-in-Node-2 g t c κs within =
    let shorter : length c.in-Node.right.now.entries < length c.args.span.tree.now.entries = right_shorter _ _ _ _ c.in-Node.ensures.top.entries_are in
    search rules

pub returns-then-is_all-clause-cost : goal.returns-then-is_all-clause-cost
returns-then-is_all-clause-cost g t c =
    omega (arith, images_some g.M.Shape.BLOCK c.args.span.tree.now.height c.args.span.range, c.project_whole.ensures.one_step)

pub returns-in-Empty-clause-cost : goal.returns-in-Empty-clause-cost
returns-in-Empty-clause-cost g t c =
    omega (arith, images_some g.M.Shape.BLOCK c.args.span.tree.now.height c.args.span.range, c.project_whole-in-Empty.ensures.one_step)

pub returns-in-Block-clause-cost : goal.returns-in-Block-clause-cost
returns-in-Block-clause-cost g t c =
    let block = c.in-Block.ensures.top in
    let some : is_all c.args.span.range ≡ false = sym c.is_all.ensures ∙ c.if-is_all.false in
    omega (arith, images_block g.M.Shape.BLOCK (length (g.M.Leaf.Leaf.entries c.in-Block.leaf.now)) c.args.span.tree.now.height block.short c.args.span.range some, c.project_block.ensures.cost)

pub returns-then-ends_before-clause-cost : goal.returns-then-ends_before-clause-cost
returns-then-ends_before-clause-cost g t c =
    let some : is_all c.args.span.range ≡ false = sym c.is_all.ensures ∙ c.if-is_all.false in
    let lower : c.in-Node.left.now.height < c.args.span.tree.now.height = omega (arith, c.in-Node.ensures.top.height_is) in
    omega (arith, images_aside g.M.Shape.BLOCK c.in-Node.left.now.height c.args.span.tree.now.height lower c.args.span.range some, c.project_span.ensures.cost)

pub returns-then-begins_after-clause-cost : goal.returns-then-begins_after-clause-cost
returns-then-begins_after-clause-cost g t c =
    let some : is_all c.args.span.range ≡ false = sym c.is_all.ensures ∙ c.if-is_all.false in
    let lower : c.in-Node.right.now.height < c.args.span.tree.now.height = omega (arith, c.in-Node.ensures.top.height_is) in
    omega (arith, images_aside g.M.Shape.BLOCK c.in-Node.right.now.height c.args.span.tree.now.height lower c.args.span.range some, c.project_span-then-begins_after.ensures.cost)

pub returns-in_err-front-in-Node-clause-cost : goal.returns-in_err-front-in-Node-clause-cost
returns-in_err-front-in-Node-clause-cost g t c =
    let some : is_all c.args.span.range ≡ false = sym c.is_all.ensures ∙ c.if-is_all.false in
    let left_lower : c.in-Node.left.now.height < c.args.span.tree.now.height = omega (arith, c.in-Node.ensures.top.height_is) in
    let right_lower : c.in-Node.right.now.height < c.args.span.tree.now.height = omega (arith, c.in-Node.ensures.top.height_is) in
    let sides = images_inside g.M.Shape.BLOCK c.in-Node.left.now.height c.in-Node.right.now.height c.args.span.tree.now.height left_lower right_lower c.args.span.range some in
    omega (arith, sides, rw c.left_part.ensures at c.in_err-front-in-Node.ensures.cost)

pub returns-in_err-back-in-Node-clause-cost : goal.returns-in_err-back-in-Node-clause-cost
returns-in_err-back-in-Node-clause-cost g t c =
    let some : is_all c.args.span.range ≡ false = sym c.is_all.ensures ∙ c.if-is_all.false in
    let left_lower : c.in-Node.left.now.height < c.args.span.tree.now.height = omega (arith, c.in-Node.ensures.top.height_is) in
    let right_lower : c.in-Node.right.now.height < c.args.span.tree.now.height = omega (arith, c.in-Node.ensures.top.height_is) in
    let sides = images_inside g.M.Shape.BLOCK c.in-Node.left.now.height c.in-Node.right.now.height c.args.span.tree.now.height left_lower right_lower c.args.span.range some in
    omega (arith, sides, rw c.left_part.ensures at c.in_ok-front-in-Node.ensures.cost, rw c.right_part.ensures at c.in_err-back-in-Node.ensures.cost)

pub returns-in_ok-back-in-Node-clause-cost : goal.returns-in_ok-back-in-Node-clause-cost
returns-in_ok-back-in-Node-clause-cost g t c =
    let some : is_all c.args.span.range ≡ false = sym c.is_all.ensures ∙ c.if-is_all.false in
    let left_lower : c.in-Node.left.now.height < c.args.span.tree.now.height = omega (arith, c.in-Node.ensures.top.height_is) in
    let right_lower : c.in-Node.right.now.height < c.args.span.tree.now.height = omega (arith, c.in-Node.ensures.top.height_is) in
    let sides = images_inside g.M.Shape.BLOCK c.in-Node.left.now.height c.in-Node.right.now.height c.args.span.tree.now.height left_lower right_lower c.args.span.range some in
    omega (arith, sides, rw c.left_part.ensures at c.in_ok-front-in-Node.ensures.cost, rw c.right_part.ensures at c.in_ok-back-in-Node.ensures.cost, c.image_around.ensures.cost)

pub returns-then-is_all-clause-work : goal.returns-then-is_all-clause-work
returns-then-is_all-clause-work g t c most costs =
    omega (arith, work_some g.M.Shape.BLOCK c.args.span.tree.now.height most c.args.span.range, c.project_whole.ensures.work most (costs c.args.span.tree.now.entries (omega arith)))

pub returns-in-Empty-clause-work : goal.returns-in-Empty-clause-work
returns-in-Empty-clause-work g t c most costs =
    omega (arith, work_some g.M.Shape.BLOCK c.args.span.tree.now.height most c.args.span.range, c.project_whole-in-Empty.ensures.work most (costs c.args.span.tree.now.entries (omega arith)))

pub returns-in-Block-clause-work : goal.returns-in-Block-clause-work
returns-in-Block-clause-work g t c most costs =
    let block = c.in-Block.ensures.top in
    let some : is_all c.args.span.range ≡ false = sym c.is_all.ensures ∙ c.if-is_all.false in
    omega (arith, work_block g.M.Shape.BLOCK (length (g.M.Leaf.Leaf.entries c.in-Block.leaf.now)) c.args.span.tree.now.height most block.short c.args.span.range some, c.project_block.ensures.work most (rw block.entries_are at costs))

pub returns-then-ends_before-clause-work : goal.returns-then-ends_before-clause-work
returns-then-ends_before-clause-work g t c most costs =
    let augment = g.M.Augment.Augment in
    let some : is_all c.args.span.range ≡ false = sym c.is_all.ensures ∙ c.if-is_all.false in
    let lower : c.in-Node.left.now.height < c.args.span.tree.now.height = omega (arith, c.in-Node.ensures.top.height_is) in
    let fewer = costs_of_fewer augment.base_of augment.unit_of augment.combined (g.P.Project.IsImageCost c.args.how.now) (length c.args.span.tree.now.entries) most costs (length c.in-Node.left.now.entries) (omega (arith, left_shorter _ _ _ _ c.in-Node.ensures.top.entries_are)) in
    omega (arith, work_aside g.M.Shape.BLOCK c.in-Node.left.now.height c.args.span.tree.now.height most lower c.args.span.range some, c.project_span.ensures.work most fewer, c.ends_before.ensures.tests)

pub returns-then-begins_after-clause-work : goal.returns-then-begins_after-clause-work
returns-then-begins_after-clause-work g t c most costs =
    let augment = g.M.Augment.Augment in
    let some : is_all c.args.span.range ≡ false = sym c.is_all.ensures ∙ c.if-is_all.false in
    let lower : c.in-Node.right.now.height < c.args.span.tree.now.height = omega (arith, c.in-Node.ensures.top.height_is) in
    let fewer = costs_of_fewer augment.base_of augment.unit_of augment.combined (g.P.Project.IsImageCost c.args.how.now) (length c.args.span.tree.now.entries) most costs (length c.in-Node.right.now.entries) (omega (arith, right_shorter _ _ _ _ c.in-Node.ensures.top.entries_are)) in
    omega (arith, work_aside g.M.Shape.BLOCK c.in-Node.right.now.height c.args.span.tree.now.height most lower c.args.span.range some, c.project_span-then-begins_after.ensures.work most fewer, c.ends_before.ensures.tests, c.begins_after.ensures.tests)

pub returns-in_err-front-in-Node-clause-work : goal.returns-in_err-front-in-Node-clause-work
returns-in_err-front-in-Node-clause-work g t c most costs =
    let augment = g.M.Augment.Augment in
    let law = g.met.M.Augment.Augment in
    let IsCost = g.P.Project.IsImageCost c.args.how.now in
    let entries = c.args.span.tree.now.entries in
    let some : is_all c.args.span.range ≡ false = sym c.is_all.ensures ∙ c.if-is_all.false in
    let node = c.in-Node.ensures.top in
    let left_lower : c.in-Node.left.now.height < c.args.span.tree.now.height = omega (arith, node.height_is) in
    let right_lower : c.in-Node.right.now.height < c.args.span.tree.now.height = omega (arith, node.height_is) in
    let sides = work_inside g.M.Shape.BLOCK c.in-Node.left.now.height c.in-Node.right.now.height c.args.span.tree.now.height most left_lower right_lower c.args.span.range some in
    let left_costs = costs_of_fewer augment.base_of augment.unit_of augment.combined IsCost (length entries) most costs (length c.in-Node.left.now.entries) (omega (arith, left_shorter _ _ _ _ node.entries_are)) in
    let right_costs = costs_of_fewer augment.base_of augment.unit_of augment.combined IsCost (length entries) most costs (length c.in-Node.right.now.entries) (omega (arith, right_shorter _ _ _ _ node.entries_are)) in
    omega (arith, sides, c.ends_before.ensures.tests, c.begins_after.ensures.tests, rw c.left_part.ensures at c.in_err-front-in-Node.ensures.work most left_costs)

pub returns-in_err-back-in-Node-clause-work : goal.returns-in_err-back-in-Node-clause-work
returns-in_err-back-in-Node-clause-work g t c most costs =
    let augment = g.M.Augment.Augment in
    let law = g.met.M.Augment.Augment in
    let IsCost = g.P.Project.IsImageCost c.args.how.now in
    let entries = c.args.span.tree.now.entries in
    let some : is_all c.args.span.range ≡ false = sym c.is_all.ensures ∙ c.if-is_all.false in
    let node = c.in-Node.ensures.top in
    let left_lower : c.in-Node.left.now.height < c.args.span.tree.now.height = omega (arith, node.height_is) in
    let right_lower : c.in-Node.right.now.height < c.args.span.tree.now.height = omega (arith, node.height_is) in
    let sides = work_inside g.M.Shape.BLOCK c.in-Node.left.now.height c.in-Node.right.now.height c.args.span.tree.now.height most left_lower right_lower c.args.span.range some in
    let left_costs = costs_of_fewer augment.base_of augment.unit_of augment.combined IsCost (length entries) most costs (length c.in-Node.left.now.entries) (omega (arith, left_shorter _ _ _ _ node.entries_are)) in
    let right_costs = costs_of_fewer augment.base_of augment.unit_of augment.combined IsCost (length entries) most costs (length c.in-Node.right.now.entries) (omega (arith, right_shorter _ _ _ _ node.entries_are)) in
    omega (arith, sides, c.ends_before.ensures.tests, c.begins_after.ensures.tests, rw c.left_part.ensures at c.in_ok-front-in-Node.ensures.work most left_costs, rw c.right_part.ensures at c.in_err-back-in-Node.ensures.work most right_costs)

pub returns-in_ok-back-in-Node-clause-work : goal.returns-in_ok-back-in-Node-clause-work
returns-in_ok-back-in-Node-clause-work g t c most costs =
    let augment = g.M.Augment.Augment in
    let law = g.met.M.Augment.Augment in
    let IsCost = g.P.Project.IsImageCost c.args.how.now in
    let entries = c.args.span.tree.now.entries in
    let some : is_all c.args.span.range ≡ false = sym c.is_all.ensures ∙ c.if-is_all.false in
    let node = c.in-Node.ensures.top in
    let left_lower : c.in-Node.left.now.height < c.args.span.tree.now.height = omega (arith, node.height_is) in
    let right_lower : c.in-Node.right.now.height < c.args.span.tree.now.height = omega (arith, node.height_is) in
    let sides = work_inside g.M.Shape.BLOCK c.in-Node.left.now.height c.in-Node.right.now.height c.args.span.tree.now.height most left_lower right_lower c.args.span.range some in
    let left_costs = costs_of_fewer augment.base_of augment.unit_of augment.combined IsCost (length entries) most costs (length c.in-Node.left.now.entries) (omega (arith, left_shorter _ _ _ _ node.entries_are)) in
    let right_costs = costs_of_fewer augment.base_of augment.unit_of augment.combined IsCost (length entries) most costs (length c.in-Node.right.now.entries) (omega (arith, right_shorter _ _ _ _ node.entries_are)) in
    let one = cost_of_one augment.base_of augment.unit_of augment.combined IsCost (length entries) most costs law.monoid law.base_fits c.in-Node.key.now c.in-Node.val.now (omega (arith, left_shorter _ _ _ _ node.entries_are)) in
    omega (arith, sides, c.ends_before.ensures.tests, c.begins_after.ensures.tests, rw c.left_part.ensures at c.in_ok-front-in-Node.ensures.work most left_costs, rw c.right_part.ensures at c.in_ok-back-in-Node.ensures.work most right_costs, c.image_around.ensures.work most one)
