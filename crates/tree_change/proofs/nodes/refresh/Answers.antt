use Rattle.std.proofs.Common.{rules, ◌≡◌, ◌+◌, length, refl, arith}
use Rattle.tree_change.proofs.nodes.refresh.Goals as goal

pub returns-clause-node : goal.returns-clause-node
returns-clause-node g c =
    let node = c.args.node.now in
    let size_is : c.size.result + c.size-2.result + 1 ≡ length node.left.entries + length node.right.entries + 1 = omega (arith, c.size.ensures.value, c.size-2.ensures.value) in
    record {
      left_is = refl;
      key_is = refl;
      val_is = refl;
      right_is = refl;
      fold_is = search rules;
      size_is = size_is;
      height_is = c.height_over-height.ensures.value;
      law = λ balanced filled. rw size_is (c.height_over-height.ensures.law balanced filled);
    }
