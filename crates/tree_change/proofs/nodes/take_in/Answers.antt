use Rattle.std.proofs.Common.{◌≡◌, ◌+◌, length, refl, ◌∙◌, arith}
use Rattle.tree_change.proofs.nodes.take_in.Goals as goal

pub returns-clause-node : goal.returns-clause-node
returns-clause-node g c =
    let node = c.args.node.now in
    let size_is : node.size + 1 ≡ length node.left.entries + length node.right.entries + 1 = omega (arith, c.requires.size) in
    record {
      left_is = refl;
      key_is = refl;
      val_is = refl;
      right_is = refl;
      fold_is = c.in-Ok.ensures.value ∙ c.requires.fold c.requires.alike;
      size_is = size_is;
      height_is = c.requires.height;
      law = λ balanced filled. rw size_is (c.requires.law balanced filled);
    }
