use Rattle.std.proofs.lemmas.Grind.{common_steps}
use Rattle.std.proofs.Common.{rules, ◌+◌, ◌<◌, ◌≤◌, ◌*◌, length, sym, subst, arith}
use Rattle.std.proofs.lemmas.Bool.{iff_false}
use Rattle.map_model.specs.Entries.{IsIncreasing}
use Rattle.map_model.specs.Balance.{weight}
use Rattle.tree_shape.specs.Shape.{link_cost}
use Rattle.tree_join.specs.Sides.{beside}
use Rattle.tree_join.proofs.Beside.{weight-beside, regroup-beside, increasing-near}
use Rattle.tree_join.proofs.Levels.{far_from_light, level_more}
use Rattle.tree_join.proofs.Weights.{far_not_too_light, far_not_too_heavy, one_level_more, two_levels_more}
use Rattle.tree_join.proofs.joins.+join_beside.Goals as goal

pub join_beside-requires : goal.join_beside-requires
join_beside-requires g t c κs within =
    let whole = subst (IsIncreasing g.M.Key.Ord.cmp) (sym (regroup-beside c.args.side c.sides_of-sides.result.far.now.entries _ c.sides_of-sides.result.near.now.entries _ _)) (rw c.sides_of-sides.ensures.entries at c.requires.increasing) in
    let increasing : IsIncreasing g.M.Key.Ord.cmp (beside c.args.side c.sides_of-sides.result.near.now.entries (c.args.key, c.args.val) c.args.light.tree.now.entries) = increasing-near g.M.Key.Ord.cmp c.args.side _ _ _ whole in
    let not_here = iff_false c.link_here.ensures c.if-link_here.false in
    let heavy = weight-beside c.args.side _ _ _ _ c.sides_of-sides.ensures.entries in
    let not_lighter : weight c.args.light.tree.now.entries ≤ 3 * weight c.sides_of-sides.result.near.now.entries = omega (arith, not_here, c.weight_of.ensures.value, c.weight_of-else-are_small.ensures.value, heavy, c.sides_of-sides.ensures.balanced.0) in
    let shorter : length c.sides_of-sides.result.near.now.entries < length c.args.heavy.tree.now.entries = omega (arith, heavy) in
    search rules

pub repair_beside-requires-clause-increasing : goal.repair_beside-requires-clause-increasing
repair_beside-requires-clause-increasing g t c =
    let whole = subst (IsIncreasing g.M.Key.Ord.cmp) (sym (regroup-beside c.args.side c.sides_of-sides.result.far.now.entries _ c.sides_of-sides.result.near.now.entries _ _)) (rw c.sides_of-sides.ensures.entries at c.requires.increasing) in
    rw c.in_ok-near.ensures.entries whole

pub repair_beside-requires-clause-not_too_light : goal.repair_beside-requires-clause-not_too_light
repair_beside-requires-clause-not_too_light g t c =
    let not_here = iff_false c.link_here.ensures c.if-link_here.false in
    let heavy = weight-beside c.args.side _ _ _ _ c.sides_of-sides.ensures.entries in
    let near = weight-beside c.args.side _ _ _ _ c.in_ok-near.ensures.entries in
    let down : 3 * weight c.args.light.tree.now.entries < weight c.sides_of-sides.result.far.now.entries + weight c.sides_of-sides.result.near.now.entries = omega (arith, not_here, c.weight_of.ensures.value, c.weight_of-else-are_small.ensures.value, heavy) in
    rw near (far_not_too_light _ _ _ c.sides_of-sides.ensures.balanced down)

pub repair_beside-requires-clause-not_too_heavy : goal.repair_beside-requires-clause-not_too_heavy
repair_beside-requires-clause-not_too_heavy g t c =
    let near = weight-beside c.args.side _ _ _ _ c.in_ok-near.ensures.entries in
    rw near (far_not_too_heavy _ _ _ c.sides_of-sides.ensures.balanced)

pub returns-in_err-near-clause-entries : goal.returns-in_err-near-clause-entries
returns-in_err-near-clause-entries g t c = grind (arith, common_steps)

pub returns-in_err-near-clause-linked : goal.returns-in_err-near-clause-linked
returns-in_err-near-clause-linked g t c = λ few. absurd (omega (arith, iff_false c.link_here.ensures c.if-link_here.false, c.weight_of.ensures.value, c.weight_of-else-are_small.ensures.value, few))

pub returns-in_err-near-clause-one_level : goal.returns-in_err-near-clause-one_level
returns-in_err-near-clause-one_level g t c = one_level_more (weight c.sides_of-sides.result.far.now.entries) (weight c.sides_of-sides.result.near.now.entries) (weight c.args.heavy.tree.now.entries) (weight c.args.light.tree.now.entries) c.args.steps.now c.join_beside.new.steps c.join_beside.new.steps (link_cost g.M.Shape.BLOCK) (weight-beside c.args.side _ _ _ _ c.sides_of-sides.ensures.entries) c.sides_of-sides.ensures.balanced.1 c.in_err-near.ensures.linked (omega arith)

pub returns-in_err-near-clause-two_levels : goal.returns-in_err-near-clause-two_levels
returns-in_err-near-clause-two_levels g t c = two_levels_more (weight c.sides_of-sides.result.far.now.entries) (weight c.sides_of-sides.result.near.now.entries) (weight c.args.heavy.tree.now.entries) (weight c.args.light.tree.now.entries) c.args.steps.now c.join_beside.new.steps c.join_beside.new.steps (link_cost g.M.Shape.BLOCK) (weight-beside c.args.side _ _ _ _ c.sides_of-sides.ensures.entries) c.sides_of-sides.ensures.balanced.1 c.in_err-near.ensures.one_level (omega arith)

pub returns-clause-entries : goal.returns-clause-entries
returns-clause-entries g t c =
    rw (c.sides_of-sides.ensures.entries, sym (regroup-beside c.args.side c.sides_of-sides.result.far.now.entries (c.sides_of-sides.result.key.now, c.sides_of-sides.result.val.now) c.sides_of-sides.result.near.now.entries (c.args.key, c.args.val) c.args.light.tree.now.entries))
    (rw c.in_ok-near.ensures.entries at c.repair_beside.ensures.entries)

pub returns-clause-linked : goal.returns-clause-linked
returns-clause-linked g t c = λ few. absurd (omega (arith, iff_false c.link_here.ensures c.if-link_here.false, c.weight_of.ensures.value, c.weight_of-else-are_small.ensures.value, few))

pub returns-clause-one_level : goal.returns-clause-one_level
returns-clause-one_level g t c = one_level_more (weight c.sides_of-sides.result.far.now.entries) (weight c.sides_of-sides.result.near.now.entries) (weight c.args.heavy.tree.now.entries) (weight c.args.light.tree.now.entries) c.args.steps.now c.join_beside.new.steps c.repair_beside.new.steps (link_cost g.M.Shape.BLOCK) (weight-beside c.args.side _ _ _ _ c.sides_of-sides.ensures.entries) c.sides_of-sides.ensures.balanced.1 c.in_ok-near.ensures.linked c.repair_beside.ensures.cost

pub returns-clause-two_levels : goal.returns-clause-two_levels
returns-clause-two_levels g t c = two_levels_more (weight c.sides_of-sides.result.far.now.entries) (weight c.sides_of-sides.result.near.now.entries) (weight c.args.heavy.tree.now.entries) (weight c.args.light.tree.now.entries) c.args.steps.now c.join_beside.new.steps c.repair_beside.new.steps (link_cost g.M.Shape.BLOCK) (weight-beside c.args.side _ _ _ _ c.sides_of-sides.ensures.entries) c.sides_of-sides.ensures.balanced.1 c.in_ok-near.ensures.one_level c.repair_beside.ensures.cost

pub returns-in_err-near-clause-levels : goal.returns-in_err-near-clause-levels
returns-in_err-near-clause-levels g t c = λ n few.
    let not_here = iff_false c.link_here.ensures c.if-link_here.false in
    let many = iff_false c.are_small.ensures c.if-are_small.false in
    let far = far_from_light (length c.args.heavy.tree.now.entries) (length c.args.light.tree.now.entries) g.M.Shape.BLOCK (omega (arith, many)) (omega (arith, not_here, c.weight_of.ensures.value, c.weight_of-else-are_small.ensures.value)) in
    level_more n (weight c.sides_of-sides.result.far.now.entries) (weight c.sides_of-sides.result.near.now.entries) (weight c.args.heavy.tree.now.entries) (weight c.args.light.tree.now.entries) g.M.Shape.BLOCK c.args.steps.now c.join_beside.new.steps c.join_beside.new.steps (link_cost g.M.Shape.BLOCK) (weight-beside c.args.side _ _ _ _ c.sides_of-sides.ensures.entries) c.sides_of-sides.ensures.balanced.1 far c.in_err-near.ensures.levels (omega arith) few

pub returns-clause-levels : goal.returns-clause-levels
returns-clause-levels g t c = λ n few.
    let not_here = iff_false c.link_here.ensures c.if-link_here.false in
    let many = iff_false c.are_small.ensures c.if-are_small.false in
    let far = far_from_light (length c.args.heavy.tree.now.entries) (length c.args.light.tree.now.entries) g.M.Shape.BLOCK (omega (arith, many)) (omega (arith, not_here, c.weight_of.ensures.value, c.weight_of-else-are_small.ensures.value)) in
    level_more n (weight c.sides_of-sides.result.far.now.entries) (weight c.sides_of-sides.result.near.now.entries) (weight c.args.heavy.tree.now.entries) (weight c.args.light.tree.now.entries) g.M.Shape.BLOCK c.args.steps.now c.join_beside.new.steps c.repair_beside.new.steps (link_cost g.M.Shape.BLOCK) (weight-beside c.args.side _ _ _ _ c.sides_of-sides.ensures.entries) c.sides_of-sides.ensures.balanced.1 far c.in_ok-near.ensures.levels c.repair_beside.ensures.cost few
