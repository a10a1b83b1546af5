use Rattle.std.proofs.Common.{rules, ◌≡◌, ◌∙◌, ◌+◌, ◌*◌, ◌≤◌, true, arith, sym, length}
use Rattle.std.specs.Result.{is_ok}
use Rattle.std.proofs.lemmas.Result.{err_from_is_err_and}
use Rattle.csv.specs.Records.{fields_of}
use Rattle.script.proofs.ListFacts.{pairs-bad, pairs-end, pairs-more}
use Rattle.script.proofs.lists.pairs_from.Goals as goal

pub loop-i-preserved : goal.loop-i-preserved
loop-i-preserved c =
    let good : is_ok c.push.result ≡ true = search rules in
    let items = rw good at c.push.ensures.items in
    let next : 2 * (c.loop-i.i + 1) + c.args.start ≡ 2 * c.loop-i.i + c.args.start + 2 = omega arith in
    rw (items, next) (c.loop-i.invariant ∙ pairs-more c.loop-i.pairs.items (fields_of c.args.row.now) (2 * c.loop-i.i + c.args.start) _ (omega arith) (sym c.in_ok-pair_at.ensures))

pub returns-in_err-pair_at : goal.returns-in_err-pair_at
returns-in_err-pair_at c =
    let p = err_from_is_err_and c.from_residual.result c.from_residual.ensures.1 in
    rw (p.1, p.2) (c.loop-i.invariant ∙ pairs-bad c.loop-i.pairs.items (fields_of c.args.row.now) (2 * c.loop-i.i + c.args.start) _ (omega arith) (sym c.in_err-pair_at.ensures))

pub returns : goal.returns
returns c =
    let last : length (fields_of c.args.row.now) ≤ 2 * c.loop-i.i + c.args.start = omega (arith, c.requires.some, c.requires.even) in
    rw c.new.ensures (c.loop-i.invariant ∙ pairs-end c.loop-i.pairs.items (fields_of c.args.row.now) (2 * c.loop-i.i + c.args.start) last)
