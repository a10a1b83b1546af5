use Rattle.std.proofs.Common.{◌≡◌, ℕ, List, length, ap, ◌∙◌, arith}
use Rattle.std.specs.Ordering.{nat_cmp}
use Rattle.map_model.specs.Parts.{left_of, rank}
use Rattle.map_handle.proofs.Counted.{counted_between, counted_none}
use Rattle.map_handle.proofs.reading.count_within.Goals as goal

pub returns-then-lo-hi : goal.returns-then-lo-hi
returns-then-lo-hi c = counted_none c.args.kept.now c.args.lo c.args.hi (omega arith)

pub overflow_sub-result : goal.overflow_sub-result
overflow_sub-result c =
    let m = c.args.kept.now in
    let upto : c.count_to.result ≡ length (left_of nat_cmp m c.args.hi) = c.count_to.ensures ∙ ap (λ (es : List (ℕ × ℕ)). length (left_of nat_cmp es c.args.hi)) c.kept.view_is in
    let less : c.rank.result ≡ rank nat_cmp m c.args.lo = c.rank.ensures ∙ ap (λ (es : List (ℕ × ℕ)). rank nat_cmp es c.args.lo) c.kept.view_is in
    let between = counted_between m c.args.lo c.args.hi (omega arith) in
    omega (arith, upto, less, between)

pub returns : goal.returns
returns c =
    let m = c.args.kept.now in
    let upto : c.count_to.result ≡ length (left_of nat_cmp m c.args.hi) = c.count_to.ensures ∙ ap (λ (es : List (ℕ × ℕ)). length (left_of nat_cmp es c.args.hi)) c.kept.view_is in
    let less : c.rank.result ≡ rank nat_cmp m c.args.lo = c.rank.ensures ∙ ap (λ (es : List (ℕ × ℕ)). rank nat_cmp es c.args.lo) c.kept.view_is in
    let between = counted_between m c.args.lo c.args.hi (omega arith) in
    omega (arith, upto, less, between)
