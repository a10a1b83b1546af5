use Rattle.std.proofs.Common.{rules, ◌≡◌, ◌∙◌, true, arith, sym}
use Rattle.std.specs.Result.{is_ok}
use Rattle.std.proofs.lemmas.Result.{err_from_is_err_and}
use Rattle.csv.specs.Records.{fields_of}
use Rattle.serve_script.proofs.ServedFacts.{operations-bad, operation_within, operations-end, operations-more}
use Rattle.serve_script.proofs.records.operations.Goals as goal

pub overflow_add-place : goal.overflow_add-place
overflow_add-place g c =
    let within = operation_within g.O.Operation.operation_of g.O.Operation.numbers_in g.O.Operation.fits (fields_of c.args.row.now) c.loop-place.place c.in_ok-op.op (sym c.in_ok-op.ensures) in
    omega (arith, within)

pub overflow_add-place-in-loop-place : goal.overflow_add-place-in-loop-place
overflow_add-place-in-loop-place g c =
    let within = operation_within g.O.Operation.operation_of g.O.Operation.numbers_in g.O.Operation.fits (fields_of c.args.row.now) c.loop-place.place c.in_ok-op.op (sym c.in_ok-op.ensures) in
    omega (arith, within)

pub loop-place-preserved : goal.loop-place-preserved
loop-place-preserved g c =
    let good : is_ok c.push.result ≡ true = search rules in
    let items = rw good at c.push.ensures.items in
    rw (items, c.numbers.ensures)
    (c.loop-place.invariant ∙ operations-more g.O.Operation.operation_of g.O.Operation.numbers_in c.loop-place.ops.items (fields_of c.args.row.now) c.loop-place.place _ (omega arith) (sym c.in_ok-op.ensures))

pub returns-in_err-op : goal.returns-in_err-op
returns-in_err-op g c =
    let p = err_from_is_err_and c.from_residual-in_err-op.result c.from_residual-in_err-op.ensures.1 in
    rw (p.1, p.2)
    (c.loop-place.invariant ∙ operations-bad g.O.Operation.operation_of g.O.Operation.numbers_in c.loop-place.ops.items (fields_of c.args.row.now) c.loop-place.place _ (omega arith) (sym c.in_err-op.ensures))

pub returns : goal.returns
returns g c =
    rw c.new.ensures (c.loop-place.invariant ∙ operations-end g.O.Operation.operation_of g.O.Operation.numbers_in c.loop-place.ops.items (fields_of c.args.row.now) c.loop-place.place (omega arith))
