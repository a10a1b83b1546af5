use Rattle.std.proofs.Common.{rules, ◌≡◌, ◌∙◌, ◌+◌, ◌*◌, ◌≤◌, true, arith, sym, length}
use Rattle.std.specs.Result.{is_ok}
use Rattle.std.proofs.lemmas.Result.{err_from_is_err_and}
use Rattle.csv.specs.Records.{fields_of}
use Rattle.points_tool.proofs.WeighedFacts.{points-bad, points-end, points-more}
use Rattle.points_tool.proofs.weighed.points_from.Goals as goal

pub loop-i-preserved : goal.loop-i-preserved
loop-i-preserved c =
    let good : is_ok c.push.result ≡ true = search rules in
    let items = rw good at c.push.ensures.items in
    let next : 3 * (c.loop-i.i + 1) + 1 ≡ 3 * c.loop-i.i + 1 + 3 = omega arith in
    rw (items, next) (c.loop-i.invariant ∙ points-more c.loop-i.points.items (fields_of c.args.row.now) (3 * c.loop-i.i + 1) _ (omega (arith, c.requires)) (sym c.in_ok-point_at.ensures))

pub returns-in_err-point_at : goal.returns-in_err-point_at
returns-in_err-point_at c =
    let p = err_from_is_err_and c.from_residual.result c.from_residual.ensures.1 in
    rw (p.1, p.2) (c.loop-i.invariant ∙ points-bad c.loop-i.points.items (fields_of c.args.row.now) (3 * c.loop-i.i + 1) _ (omega (arith, c.requires)) (sym c.in_err-point_at.ensures))

pub returns : goal.returns
returns c =
    let last : length (fields_of c.args.row.now) ≤ 3 * c.loop-i.i + 1 = omega (arith, c.requires) in
    rw c.new.ensures (c.loop-i.invariant ∙ points-end c.loop-i.points.items (fields_of c.args.row.now) (3 * c.loop-i.i + 1) last)
