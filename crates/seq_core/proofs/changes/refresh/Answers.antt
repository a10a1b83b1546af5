use Rattle.std.proofs.Common.{◌≡◌, ◌+◌, length, refl, sym, ◌∙◌, arith}
use Rattle.seq_core.proofs.Sums.{sum-around}
use Rattle.seq_core.proofs.changes.refresh.Goals as goal

pub returns : goal.returns
returns g c =
    let node = c.args.node.now in
    let law = g.met.F.Fold in
    let around = sum-around law.monoid law.image_fits node.left.items node.item node.right.items in
    let sum = rw (c.sum.ensures, c.sum-2.ensures) at c.sum_around-sum.ensures in
    let size_is : c.size-before.result + c.size.result + 1 ≡ length node.left.items + length node.right.items + 1 = omega (arith, c.size-before.ensures.value, c.size.ensures.value) in
    record {
      left_is = refl;
      item_is = refl;
      right_is = refl;
      before_is = c.size-before.ensures.value;
      sum_is = sum ∙ sym around;
      size_is = size_is;
      height_is = c.height_over-height.ensures.value;
      law = λ balanced filled. rw size_is (c.height_over-height.ensures.law balanced filled);
    }
