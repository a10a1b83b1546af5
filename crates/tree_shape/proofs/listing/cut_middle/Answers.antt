use Rattle.std.proofs.Common.{◌++◌, ap, ◌∙◌, arith}
use Rattle.tree_shape.proofs.listing.cut_middle.Goals as goal

pub returns : goal.returns
returns g c =
    let cut = c.split_at.ensures in
    record {
      whole = cut.by_index.0 ∙ ap (λ r. c.split_at.result.0.now ++ r) c.in-Some.ensures.cases.0;
      front_length = omega (arith, cut.front_len);
      back_length = omega (arith, cut.front_len, cut.back_len, c.in-Some.ensures.cases.1);
    }
