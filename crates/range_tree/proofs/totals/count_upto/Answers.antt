use Rattle.std.proofs.Common.{◌≡◌, ◌+◌, sym, ap, ◌∙◌, arith}
use Rattle.aug_monoid.specs.Exact.{pair64_cmp}
use Rattle.map_model.specs.Entries.{lookup}
use Rattle.map_model.specs.Parts.{rank}
use Rattle.range_tree.proofs.Counts.{counted_absent, counted_found, rank_fits}
use Rattle.range_tree.proofs.totals.count_upto.Goals as goal

pub overflow_add-result : goal.overflow_add-result
overflow_add-result g c =
    let less : c.rank-less.result ≡ rank pair64_cmp c.args.map.now.entries c.args.key.now = c.rank-less.ensures.value in
    omega (arith, less, rank_fits c.args.map.now.entries c.args.key.now, c.size-number.ensures.value, c.size-number.ensures.fits)

pub returns-in-Some-clause-count : goal.returns-in-Some-clause-count
returns-in-Some-clause-count g c =
    let m = c.args.map.now.entries in
    let key = c.args.key.now in
    let less : c.rank-less.result ≡ rank pair64_cmp m key = c.rank-less.ensures.value in
    let found : c.in_ok-get.field-0 ≡ lookup pair64_cmp m key = c.in_ok-get.ensures.value in
    ap (λ n. n + 1) less ∙ counted_found m key c.in-Some.field-0 c.size-number.ensures.increasing (sym c.in-Some.is ∙ found)

pub returns-in-None-clause-count : goal.returns-in-None-clause-count
returns-in-None-clause-count g c =
    let m = c.args.map.now.entries in
    let key = c.args.key.now in
    let less : c.rank-less.result ≡ rank pair64_cmp m key = c.rank-less.ensures.value in
    let found : c.in_ok-get.field-0 ≡ lookup pair64_cmp m key = c.in_ok-get.ensures.value in
    less ∙ counted_absent m key c.size-number.ensures.increasing (sym c.in-None.is ∙ found)
