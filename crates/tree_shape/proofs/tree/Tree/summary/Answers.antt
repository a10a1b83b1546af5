use Rattle.std.proofs.Common.{length, arith}
use Rattle.map_model.proofs.Heights.{height_small}
use Rattle.tree_shape.proofs.tree.Tree.summary.Goals as goal

pub overflow_add-height : goal.overflow_add-height
overflow_add-height g c =
    let block = g.M.Shape.BLOCK in
    let left = height_small block c.args.left.now.height (length c.args.left.now.entries) g.M.Shape.lawful.0 (omega (arith, c.size.ensures.value, c.size.ensures.fits)) c.height.ensures.law in
    let right = height_small block c.args.right.now.height (length c.args.right.now.entries) g.M.Shape.lawful.0 (omega (arith, c.size-2.ensures.value, c.size-2.ensures.fits)) c.height-2.ensures.law in
    omega (arith, left, right, c.max-height.ensures, c.height.ensures.value, c.height-2.ensures.value)

pub returns-clause-left_law : goal.returns-clause-left_law
returns-clause-left_law g c = c.height.ensures.law

pub returns-clause-right_law : goal.returns-clause-right_law
returns-clause-right_law g c = c.height-2.ensures.law

pub returns-then-size-ge-MOST_ENTRIES-clause-left_law : goal.returns-then-size-ge-MOST_ENTRIES-clause-left_law
returns-then-size-ge-MOST_ENTRIES-clause-left_law g c = c.height.ensures.law

pub returns-then-size-ge-MOST_ENTRIES-clause-right_law : goal.returns-then-size-ge-MOST_ENTRIES-clause-right_law
returns-then-size-ge-MOST_ENTRIES-clause-right_law g c = c.height-2.ensures.law

pub returns-in_err-fold-clause-left_law : goal.returns-in_err-fold-clause-left_law
returns-in_err-fold-clause-left_law g c = c.height.ensures.law

pub returns-in_err-fold-clause-right_law : goal.returns-in_err-fold-clause-right_law
returns-in_err-fold-clause-right_law g c = c.height-2.ensures.law
