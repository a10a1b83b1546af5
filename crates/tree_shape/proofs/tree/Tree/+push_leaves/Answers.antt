use Rattle.std.proofs.Common.{rules, ◌*◌, map, arith}
use Rattle.std.proofs.lemmas.Result.{IfOk-weaker}
use Rattle.tree_shape.proofs.Halves.{front_shorter, back_shorter, front_increasing, back_increasing}
use Rattle.tree_shape.proofs.LeafLists.{both_pushed, pushed}
use Rattle.tree_shape.proofs.tree.Tree.+push_leaves.Goals as goal

pub push_leaves-requires : goal.push_leaves-requires
push_leaves-requires g t c κs within =
    let shorter = front_shorter c.cut_middle.ensures in
    let rises = front_increasing g.M.Key.Ord.cmp c.cut_middle.ensures c.requires.increasing in
    (search rules, (within.0, (within.1.0, (within.1.1.0, (within.1.1.1.0, (within.1.1.1.1.0, (within.1.1.1.1.1, rises)))))))

pub push_leaves-requires-2 : goal.push_leaves-requires-2
push_leaves-requires-2 g t c κs within =
    let shorter = back_shorter c.cut_middle.ensures in
    let rises = back_increasing g.M.Key.Ord.cmp c.cut_middle.ensures c.requires.increasing in
    (search rules, (within.0, (within.1.0, (within.1.1.0, (within.1.1.1.0, (within.1.1.1.1.0, (within.1.1.1.1.1, rises)))))))

pub returns-then-from-BLOCK : goal.returns-then-from-BLOCK
returns-then-from-BLOCK g t c =
    pushed g.M.Leaf.Leaf.entries (2 * g.M.Shape.BLOCK) c.args.from.now (omega (arith, c.if-from-BLOCK.true)) c.args.leaves.now.items c.push.new.self.items c.in_ok-leaf.leaf c.in_ok-push.ensures.items c.in_ok-leaf.ensures

pub returns : goal.returns
returns g t c =
    IfOk-weaker c.push_leaves-2.result _ _
    (λ x h. both_pushed (2 * g.M.Shape.BLOCK) c.cut_middle.ensures (omega (arith, c.if-from-BLOCK.false)) (map g.M.Leaf.Leaf.entries c.args.leaves.now.items) (map g.M.Leaf.Leaf.entries c.push_leaves.new.leaves.items) (map g.M.Leaf.Leaf.entries c.push_leaves-2.new.leaves.items) c.in_ok-push_leaves.ensures h)
    c.push_leaves-2.ensures
