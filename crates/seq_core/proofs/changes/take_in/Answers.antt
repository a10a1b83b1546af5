use Rattle.std.proofs.Common.{◌≡◌, ◌+◌, length, refl, ◌∙◌, arith}
use Rattle.seq_core.proofs.changes.take_in.Goals as goal

pub returns : goal.returns
returns g c =
    let node = c.args.node.now in
    let size_is : node.size + 1 ≡ length node.left.items + length node.right.items + 1 = omega (arith, c.requires.size) in
    record {
      left_is = refl;
      item_is = refl;
      right_is = refl;
      before_is = c.requires.before;
      sum_is = c.sum_both.ensures ∙ c.requires.sum;
      size_is = size_is;
      height_is = c.height_over-height.ensures.value;
      law = λ balanced filled. rw size_is (c.height_over-height.ensures.law balanced filled);
    }
