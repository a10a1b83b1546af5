use Rattle.std.proofs.Common.{◌≡◌, ◌+◌, ◌*◌, ◌≤◌, ◌∷◌, ◌++◌, length, sym, ap, ap₂, ◌∙◌, arith}
use Rattle.map_model.specs.Balance.{weight}
use Rattle.map_model.proofs.Cuts.{length-around}
use Rattle.map_model.proofs.Heights.{height_at_most}
use Rattle.bulk_ops.specs.Costs.{levels}
use Rattle.bulk_ops.proofs.Bounds.{cut_pays}
use Rattle.map_model.proofs.Lengths.{length-sides_le}
use Rattle.bulk_ops.proofs.Combinations.{cut_at_first, smaller}
use Rattle.bulk_ops.proofs.Levels.{levels_low_part}
use Rattle.bulk_ops.proofs.combining.cut_first.Goals as goal

pub returns-in_ok-below-in-Node-clause-opened : goal.returns-in_ok-below-in-Node-clause-opened
returns-in_ok-below-in-Node-clause-opened g c =
    let laws = g.met.W.Combination.laws c.args.how.now in
    let sides = c.in_ok-near-in-Node in
    let cut = c.in_ok-below-in-Node in
    let key = c.in-Node.key.now in
    let val = c.in-Node.val.now in
    let is : c.args.a.now.entries ≡ sides.near.entries ++ (key, val) ∷ sides.far.entries = c.in-Node.ensures.top.entries_are ∙ sym (ap₂ (λ x y. x ++ (key, val) ∷ y) sides.ensures.near sides.ensures.far) in
    let put = cut_at_first laws c.args.a.now c.args.b.now sides.near sides.far cut.below cut.above key val cut.middle is c.requires.first c.requires.second cut.ensures.below cut.ensures.above cut.ensures.middle in
    let less = smaller g.M.Key.Ord.cmp c.args.a.now.entries c.args.b.now.entries sides.near.entries sides.far.entries cut.below.entries cut.above.entries (key, val) key is cut.ensures.below cut.ensures.above in
    (put, tt, tt, less.0, less.1)

pub returns-in_ok-below-in-Node-clause-cost : goal.returns-in_ok-below-in-Node-clause-cost
returns-in_ok-below-in-Node-clause-cost g c =
    let block = g.M.Shape.BLOCK in
    let a = c.args.a.now.entries in
    let b = c.args.b.now in
    let node = c.in-Node.ensures.top in
    let near = c.in_ok-near-in-Node.near.entries in
    let far = c.in_ok-near-in-Node.far.entries in
    let cut = c.in_ok-below-in-Node in
    let near_is : length near ≡ length c.in-Node.left.now.entries = ap length c.in_ok-near-in-Node.ensures.near in
    let far_is : length far ≡ length c.in-Node.right.now.entries = ap length c.in_ok-near-in-Node.ensures.far in
    let whole : length near + length far + 1 ≡ length a = omega (arith, near_is, far_is, ap length node.entries_are, length-around c.in-Node.left.now.entries (c.in-Node.key.now, c.in-Node.val.now) c.in-Node.right.now.entries) in
    let left : length near + 1 ≤ 3 * (length far + 1) = omega (arith, near_is, far_is, node.balanced.0) in
    let right : length far + 1 ≤ 3 * (length near + 1) = omega (arith, near_is, far_is, node.balanced.1) in
    let shared : length cut.below.entries + length cut.above.entries ≤ length b.entries = omega (arith, ap length cut.ensures.below, ap length cut.ensures.above, length-sides_le g.M.Key.Ord.cmp b.entries c.in-Node.key.now) in
    let deep = levels (length a + length b.entries + 2) in
    let low = levels_low_part block (length a + length b.entries + 2) (weight b.entries) g.M.Shape.lawful.0 (omega arith) in
    let height = height_at_most block deep b.height (length b.entries) g.M.Shape.lawful.0 c.height-height.ensures.law low in
    cut_pays block g.M.Leaf.Leaf.FIND (length a) (length near) (length far) (length b.entries) (length cut.below.entries) (length cut.above.entries) b.height c.args.steps.now c.cut_at.new.steps whole left right shared c.requires.greater c.requires.some height (c.cut_at.ensures.cost deep low)
