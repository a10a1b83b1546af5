use Rattle.std.proofs.Common.{◌≡◌, is_gt, sym, ap, ◌∙◌, arith}
use Rattle.aug_monoid.specs.Exact.{pair64_cmp}
use Rattle.map_model.specs.Parts.{rank}
use Rattle.range_tree.proofs.Counts.{counted_between, counted_none}
use Rattle.range_tree.proofs.totals.count_between.Goals as goal

pub returns-then-is_gt-clause-count : goal.returns-then-is_gt-clause-count
returns-then-is_gt-clause-count g c = counted_none c.args.map.now.entries c.args.lo.now c.args.hi.now (sym (c.is_gt.ensures ∙ ap is_gt c.order.ensures.value) ∙ c.if-is_gt.true)

pub overflow_sub-result : goal.overflow_sub-result
overflow_sub-result g c =
    let m = c.args.map.now.entries in
    let less : c.rank.result ≡ rank pair64_cmp m c.args.lo.now = c.rank.ensures.value in
    let between = counted_between m c.args.lo.now c.args.hi.now (sym (c.is_gt.ensures ∙ ap is_gt c.order.ensures.value) ∙ c.if-is_gt.false) in
    omega (arith, less, between, c.in_ok-upto.ensures.count)

pub returns-clause-count : goal.returns-clause-count
returns-clause-count g c =
    let m = c.args.map.now.entries in
    let less : c.rank.result ≡ rank pair64_cmp m c.args.lo.now = c.rank.ensures.value in
    let between = counted_between m c.args.lo.now c.args.hi.now (sym (c.is_gt.ensures ∙ ap is_gt c.order.ensures.value) ∙ c.if-is_gt.false) in
    omega (arith, less, between, c.in_ok-upto.ensures.count)
