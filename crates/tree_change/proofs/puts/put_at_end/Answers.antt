use Rattle.std.proofs.Common.{rules, ◌≡◌, ◌+◌, ◌*◌, ◌<◌, ◌≤◌, length, sym, ap, ◌∙◌, subst, arith}
use Rattle.std.proofs.lemmas.Bool.{false_from_ne_true, false≢true}
use Rattle.std.proofs.lemmas.Result.{IfOk-weaker}
use Rattle.map_model.specs.Entries.{lookup, set}
use Rattle.map_model.proofs.Cuts.{none_of_absent, set_sizes}
use Rattle.map_model.proofs.Lengths.{length-set}
use Rattle.map_model.proofs.Splits.{IsIncreasing-set}
use Rattle.tree_shape.specs.Top.{contents}
use Rattle.tree_change.specs.Looks.{look_cost}
use Rattle.tree_change.proofs.Changed.{by_outcome, longer_seen}
use Rattle.tree_change.proofs.Costs.{sought_cost}
use Rattle.tree_change.proofs.HandedOut.{handed_out}
use Rattle.tree_change.proofs.Owned.{top_block}
use Rattle.tree_change.proofs.Taking.{longer_if_new}
use Rattle.tree_change.proofs.puts.put_at_end.Goals as goal
use Rattle.tree_change.proofs.puts.put_at_end.Goals.{in_default, in-Block+in_default-get_mut, then-place-via-then-place, then-place-via-else-place+then-len-BLOCK}

pub returns-clause-cost : goal.returns-clause-cost
returns-clause-cost g c =
    let same : (contents g.M.Leaf.Leaf.entries c.match-tree.tree-inside.top).height ≡ c.args.part.tree.now.height = elim c.match-tree.branch [
      | in_default w ↦ search rules
      | in-Block+in_default-get_mut w ↦ search rules
    ] in
    subst (λ h. c.put_copy.new.steps < c.args.steps.now + (64 * (h + 1) * (g.M.Shape.BLOCK + 2) + (g.M.Leaf.Leaf.FIND + look_cost c.args.replaced.now.is_wanted h g.M.Leaf.Leaf.FIND))) same
    (omega (arith, c.put_copy.ensures.cost, c.share_in_tree.ensures.cost))

pub invariant_of-tree-then-place : goal.invariant_of-tree-then-place
invariant_of-tree-then-place g c =
    let a = g.M.Augment.Augment in
    let own = top_block g.M.Leaf.Leaf.entries g.M.Key.Ord.cmp a.base_of a.unit_of a.combined g.M.Shape.BLOCK c.args.part.tree.now c.in-Some.block.now c.in-Block.owner c.tree.inside.top c.in-Some.ensures.value c.in-Block.is c.tree.invariant c.tree.view_is in
    let entries = g.M.Leaf.Leaf.entries c.in-Some.block.now.leaf in
    let sizes = set_sizes g.met.M.Key.Ord.total g.met.M.Key.Key.exact entries c.args.key own.shape.increasing c.args.val in
    let short : length (set g.M.Key.Ord.cmp entries c.args.key c.args.val) ≤ 2 * g.M.Shape.BLOCK = elim c.then-place.branch [
      | then-place-via-then-place w ↦ rw (length-set g.met.M.Key.Ord.total g.met.M.Key.Key.exact entries c.args.key c.args.val own.shape.increasing, c.seek-place.ensures.hit.0 w.if-place.true) own.shape.short
      | then-place-via-else-place+then-len-BLOCK w ↦ omega (arith, sizes.1, w.if-len-BLOCK.true, w.len.ensures.value)
    ] in
    by_outcome c.put_in_own_block.result c.put_in_own_block.ensures.entries c.put_in_own_block.ensures.fold c.put_in_own_block.ensures.kept c.put_in_own_block.ensures.kept_fold
    (λ put fold. record {
      increasing = rw put (IsIncreasing-set g.met.M.Key.Ord.total entries c.args.key c.args.val own.shape.increasing);
      some = rw put (omega (arith, sizes.0, own.shape.some));
      short = rw put short;
      fold_is = fold;
    })
    (λ kept fold. record {
      increasing = rw kept own.shape.increasing;
      some = rw kept own.shape.some;
      short = rw kept own.shape.short;
      fold_is = rw (kept, fold) own.shape.fold_is;
    })

pub part_some-tree : goal.part_some-tree
part_some-tree g c = search rules

pub overflow_mul-BLOCK : goal.overflow_mul-BLOCK
overflow_mul-BLOCK g c = search rules

pub put_in_own_block-requires-clause-total : goal.put_in_own_block-requires-clause-total
put_in_own_block-requires-clause-total g c = search rules

pub put_in_own_block-requires-clause-increasing : goal.put_in_own_block-requires-clause-increasing
put_in_own_block-requires-clause-increasing g c = search rules

pub put_in_own_block-requires-clause-short : goal.put_in_own_block-requires-clause-short
put_in_own_block-requires-clause-short g c = search rules

pub put_in_own_block-requires-clause-at : goal.put_in_own_block-requires-clause-at
put_in_own_block-requires-clause-at g c = search rules

pub put_in_own_block-requires-clause-hit : goal.put_in_own_block-requires-clause-hit
put_in_own_block-requires-clause-hit g c = search rules

pub part_none-tree : goal.part_none-tree
part_none-tree g c = search rules

pub invariant_of-tree-2 : goal.invariant_of-tree-2
invariant_of-tree-2 g c = search rules

pub invariant_of-tree-3 : goal.invariant_of-tree-3
invariant_of-tree-3 g c = search rules

pub invariant_of-drop : goal.invariant_of-drop
invariant_of-drop g c = search rules

pub BLOCK-requires : goal.BLOCK-requires
BLOCK-requires g c κs within = search rules

pub put_sought-requires-clause-increasing : goal.put_sought-requires-clause-increasing
put_sought-requires-clause-increasing g c =
    let a = g.M.Augment.Augment in
    let own = top_block g.M.Leaf.Leaf.entries g.M.Key.Ord.cmp a.base_of a.unit_of a.combined g.M.Shape.BLOCK c.args.part.tree.now c.in-Some.block.now c.in-Block.owner c.tree.inside.top c.in-Some.ensures.value c.in-Block.is c.tree.invariant c.tree.view_is in
    own.shape.increasing

pub put_sought-requires-clause-short : goal.put_sought-requires-clause-short
put_sought-requires-clause-short g c =
    let a = g.M.Augment.Augment in
    let own = top_block g.M.Leaf.Leaf.entries g.M.Key.Ord.cmp a.base_of a.unit_of a.combined g.M.Shape.BLOCK c.args.part.tree.now c.in-Some.block.now c.in-Block.owner c.tree.inside.top c.in-Some.ensures.value c.in-Block.is c.tree.invariant c.tree.view_is in
    own.shape.short

pub put_sought-requires-clause-at : goal.put_sought-requires-clause-at
put_sought-requires-clause-at g c =
    c.seek-place.ensures.at

pub put_sought-requires-clause-hit : goal.put_sought-requires-clause-hit
put_sought-requires-clause-hit g c =
    c.seek-place.ensures.hit

pub returns-in_err-tree-inside-clause-cost : goal.returns-in_err-tree-inside-clause-cost
returns-in_err-tree-inside-clause-cost g c =
    let a = g.M.Augment.Augment in
    let own = top_block g.M.Leaf.Leaf.entries g.M.Key.Ord.cmp a.base_of a.unit_of a.combined g.M.Shape.BLOCK c.args.part.tree.now c.in-Some.block.now c.in-Block.owner c.tree.inside.top c.in-Some.ensures.value c.in-Block.is c.tree.invariant c.tree.view_is in
    let look = c.seek-place.ensures.within (omega (arith, own.shape.short, g.M.Shape.lawful.1)) in
    sought_cost c.args.part.tree.now.height g.M.Shape.BLOCK (g.M.Leaf.Leaf.FIND + look_cost c.args.replaced.now.is_wanted c.args.part.tree.now.height g.M.Leaf.Leaf.FIND) c.args.steps.now c.seek-place.new.steps c.put_sought.new.steps (omega (arith, look)) c.put_sought.ensures.cost

pub returns-in-Some-clause-cost : goal.returns-in-Some-clause-cost
returns-in-Some-clause-cost g c =
    let a = g.M.Augment.Augment in
    let own = top_block g.M.Leaf.Leaf.entries g.M.Key.Ord.cmp a.base_of a.unit_of a.combined g.M.Shape.BLOCK c.args.part.tree.now c.in-Some.block.now c.in-Block.owner c.tree.inside.top c.in-Some.ensures.value c.in-Block.is c.tree.invariant c.tree.view_is in
    let look = c.seek-place.ensures.within (omega (arith, own.shape.short, g.M.Shape.lawful.1)) in
    sought_cost c.args.part.tree.now.height g.M.Shape.BLOCK (g.M.Leaf.Leaf.FIND + look_cost c.args.replaced.now.is_wanted c.args.part.tree.now.height g.M.Leaf.Leaf.FIND) c.args.steps.now c.seek-place.new.steps c.put_sought.new.steps (omega (arith, look)) c.put_sought.ensures.cost

pub invariant_of-tree-in-Some : goal.invariant_of-tree-in-Some
invariant_of-tree-in-Some g c =
    search rules

pub invariant_of-drop-2 : goal.invariant_of-drop-2
invariant_of-drop-2 g c =
    search rules

pub put_in_own_block-requires-clause-base : goal.put_in_own_block-requires-clause-base
put_in_own_block-requires-clause-base g c = c.requires.base

pub put_in_own_block-requires-clause-folded : goal.put_in_own_block-requires-clause-folded
put_in_own_block-requires-clause-folded g c =
    let a = g.M.Augment.Augment in
    let own = top_block g.M.Leaf.Leaf.entries g.M.Key.Ord.cmp a.base_of a.unit_of a.combined g.M.Shape.BLOCK c.args.part.tree.now c.in-Some.block.now c.in-Block.owner c.tree.inside.top c.in-Some.ensures.value c.in-Block.is c.tree.invariant c.tree.view_is in
    own.shape.fold_is

pub returns-in-Some-clause-larger : goal.returns-in-Some-clause-larger
returns-in-Some-clause-larger g c = λ _.
    let a = g.M.Augment.Augment in
    let own = top_block g.M.Leaf.Leaf.entries g.M.Key.Ord.cmp a.base_of a.unit_of a.combined g.M.Shape.BLOCK c.args.part.tree.now c.in-Some.block.now c.in-Block.owner c.tree.inside.top c.in-Some.ensures.value c.in-Block.is c.tree.invariant c.tree.view_is in
    let entries = g.M.Leaf.Leaf.entries c.in-Some.block.now.leaf in
    let absent = none_of_absent _ (false_from_ne_true _ (λ h. false≢true (sym c.if-place.false ∙ c.seek-place.ensures.hit.1 h))) in
    let more = longer_if_new g.met.M.Key.Ord.total g.met.M.Key.Key.exact entries c.args.key c.args.val own.shape.increasing absent in
    longer_seen own.entries_are (ap (λ v. v.entries) c.drop.view_is ∙ c.in_ok-tree-inside.ensures.entries) more

pub invariant_of-tree-in-Break-branch-2 : goal.invariant_of-tree-in-Break-branch-2
invariant_of-tree-in-Break-branch-2 g c = search rules

pub invariant_of-tree-in-Break-branch-3 : goal.invariant_of-tree-in-Break-branch-3
invariant_of-tree-in-Break-branch-3 g c = search rules

pub invariant_of-tree-in-Break-branch-4 : goal.invariant_of-tree-in-Break-branch-4
invariant_of-tree-in-Break-branch-4 g c = search rules

pub invariant_of-tree-4 : goal.invariant_of-tree-4
invariant_of-tree-4 g c = search rules

pub invariant_of-tree : goal.invariant_of-tree
invariant_of-tree g c =
    let a = g.M.Augment.Augment in
    let own = top_block g.M.Leaf.Leaf.entries g.M.Key.Ord.cmp a.base_of a.unit_of a.combined g.M.Shape.BLOCK c.args.part.tree.now c.in-Some.block.now c.in-Block.owner c.tree.inside.top c.in-Some.ensures.value c.in-Block.is c.tree.invariant c.tree.view_is in
    own.shape

pub returns-then-place-clause-replaced : goal.returns-then-place-clause-replaced
returns-then-place-clause-replaced g c =
    let a = g.M.Augment.Augment in
    let own = top_block g.M.Leaf.Leaf.entries g.M.Key.Ord.cmp a.base_of a.unit_of a.combined g.M.Shape.BLOCK c.args.part.tree.now c.in-Some.block.now c.in-Block.owner c.tree.inside.top c.in-Some.ensures.value c.in-Block.is c.tree.invariant c.tree.view_is in
    let entries = g.M.Leaf.Leaf.entries c.in-Some.block.now.leaf in
    IfOk-weaker c.put_in_own_block.result _ _ (λ _ put wanted. handed_out g.met.M.Key.Ord.total g.met.M.Key.Key.exact entries c.args.key c.seek-place.result.at c.seek-place.result.hit c.args.replaced.now.val c.share_at_place.new.replaced.val own.shape.increasing c.seek-place.ensures.at c.seek-place.ensures.hit
    (c.in_ok-share_at_place.ensures.hit wanted) c.in_ok-share_at_place.ensures.missed c.requires.unset ∙ ap (λ es. lookup g.M.Key.Ord.cmp es c.args.key) own.entries_are) c.put_in_own_block.ensures.entries

pub returns-then-place-clause-cost : goal.returns-then-place-clause-cost
returns-then-place-clause-cost g c =
    let a = g.M.Augment.Augment in
    let own = top_block g.M.Leaf.Leaf.entries g.M.Key.Ord.cmp a.base_of a.unit_of a.combined g.M.Shape.BLOCK c.args.part.tree.now c.in-Some.block.now c.in-Block.owner c.tree.inside.top c.in-Some.ensures.value c.in-Block.is c.tree.invariant c.tree.view_is in
    let look = c.seek-place.ensures.within (omega (arith, own.shape.short, g.M.Shape.lawful.1)) in
    sought_cost c.args.part.tree.now.height g.M.Shape.BLOCK (g.M.Leaf.Leaf.FIND + look_cost c.args.replaced.now.is_wanted c.args.part.tree.now.height g.M.Leaf.Leaf.FIND) c.args.steps.now c.seek-place.new.steps c.put_in_own_block.new.steps (omega (arith, look)) (omega (arith, c.put_in_own_block.ensures.cost, own.shape.short, g.M.Shape.lawful.0))
