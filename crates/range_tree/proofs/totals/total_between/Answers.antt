use Rattle.std.proofs.Common.{◌≡◌, ℕ, ◌-◌, ◌^◌, ◌≤◌, length, min, ap, ap₂, ◌∙◌, arith}
use Rattle.aug_monoid.specs.declared.pair64.Pair64.{Pair64}
use Rattle.aug_monoid.specs.declared.totals.Totals.{Totals}
use Rattle.aug_monoid.specs.Exact.{pair64_cmp}
use Rattle.aug_monoid.specs.Totals.{totals_base, totals_combine, totals_unit}
use Rattle.map_model.specs.Fold.{fold_of}
use Rattle.map_model.specs.Parts.{slice}
use Rattle.range_tree.specs.declared.points.Total.{Total}
use Rattle.range_tree.specs.Points.{weight_sum}
use Rattle.range_tree.proofs.Counts.{slice_fits}
use Rattle.range_tree.proofs.Sums.{sum-fold}
use Rattle.range_tree.proofs.totals.total_between.Goals as goal

pub returns-clause-total : goal.returns-clause-total
returns-clause-total g c =
    let m = c.args.map.now.entries in
    let part = slice pair64_cmp m c.args.lo.now c.args.hi.now in
    let fold : c.in_ok-sum.field-0 ≡ fold_of (λ (_ : Pair64) (v : ℕ). totals_base v) totals_unit totals_combine part = c.in_ok-sum.ensures.value in
    let sum : c.in_ok-sum.field-0.sum ≡ min (weight_sum part) (2 ^ 64 - 1) = ap (λ (t : Totals). t.sum) fold ∙ sum-fold part in
    let few : length part ≤ length m = slice_fits m c.args.lo.now c.args.hi.now in
    let count : c.in_ok-count.count ≡ min (length part) (2 ^ 64 - 1) = omega (arith, c.in_ok-count.ensures.count, few, c.size-number.ensures.value, c.size-number.ensures.fits) in
    ap₂ (λ (x y : ℕ). let t : Total = record { sum = x; count = y } in t) sum count
