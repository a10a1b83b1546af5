use Rattle.std.proofs.Common.{◌≡◌, ◌+◌, ◌≤◌, length, min, ap, ◌∙◌, arith}
use Rattle.map_model.specs.Balance.{weight}
use Rattle.map_model.proofs.Heights.{height_at_most, levels_of_part}
use Rattle.bulk_ops.proofs.Bounds.{unlike_pays}
use Rattle.bulk_ops.proofs.combining.combine_unlike.Goals as goal

pub returns-in_ok-few-clause-cost : goal.returns-in_ok-few-clause-cost
returns-in_ok-few-clause-cost g c n few =
    let block = g.M.Shape.BLOCK in
    let a = c.args.a.now in
    let b = c.args.b.now in
    let low = height_at_most block n a.height (length a.entries) g.M.Shape.lawful.0 c.height-height.ensures.law (levels_of_part block n (weight a.entries) (weight a.entries + weight b.entries) (omega arith) few) in
    let lesser : length b.entries ≤ min (length a.entries) (length b.entries) = omega (arith, c.size.ensures.value, c.size-2.ensures.value, c.if-size.true) in
    let taken : length c.deref.result.now ≡ length b.entries = ap length c.deref.ensures.value ∙ ap length c.in_ok-few.ensures in
    unlike_pays block g.M.Leaf.Leaf.FIND n a.height (length c.deref.result.now) (length b.entries) (min (length a.entries) (length b.entries)) c.args.steps.now c.combine_few.new.steps low taken lesser
    (c.combine_few.ensures.cost n (levels_of_part block n (weight a.entries + weight c.deref.result.now) (weight a.entries + weight b.entries) (omega (arith, taken)) few))

pub returns-in_ok-few-2-clause-cost : goal.returns-in_ok-few-2-clause-cost
returns-in_ok-few-2-clause-cost g c n few =
    let block = g.M.Shape.BLOCK in
    let a = c.args.a.now in
    let b = c.args.b.now in
    let low = height_at_most block n b.height (length b.entries) g.M.Shape.lawful.0 c.height-height-else-size.ensures.law (levels_of_part block n (weight b.entries) (weight a.entries + weight b.entries) (omega arith) few) in
    let lesser : length a.entries ≤ min (length a.entries) (length b.entries) = omega (arith, c.size.ensures.value, c.size-2.ensures.value, c.if-size.false) in
    let taken : length c.deref-else-size.result.now ≡ length a.entries = ap length c.deref-else-size.ensures.value ∙ ap length c.in_ok-few-2.ensures in
    unlike_pays block g.M.Leaf.Leaf.FIND n b.height (length c.deref-else-size.result.now) (length a.entries) (min (length a.entries) (length b.entries)) c.args.steps.now c.combine_few-else-size.new.steps low taken lesser
    (c.combine_few-else-size.ensures.cost n (levels_of_part block n (weight b.entries + weight c.deref-else-size.result.now) (weight a.entries + weight b.entries) (omega (arith, taken)) few))
