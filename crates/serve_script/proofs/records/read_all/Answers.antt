use Rattle.std.proofs.Common.{rules, ◌≡◌, ◌∙◌, true}
use Rattle.std.specs.Result.{is_ok}
use Rattle.std.proofs.lemmas.Result.{err_from_is_err_and}
use Rattle.csv.specs.Records.{fields_of}
use Rattle.serve_script.specs.Served.{later_command}
use Rattle.script.proofs.CommandFacts.{front-end, front-fault, front-more}
use Rattle.serve_script.proofs.ServedFacts.{callers_front}
use Rattle.serve_script.proofs.records.read_all.Goals as goal

pub loop-place-init : goal.loop-place-init
loop-place-init g c =
    let good : is_ok c.push.result ≡ true = search rules in
    let items = rw (good, c.new-commands.ensures.items) at c.push.ensures.items in
    rw items (callers_front c.args.callers _)

pub returns-then-not-branch : goal.returns-then-not-branch
returns-then-not-branch g c =
    let gone = rw c.if-not-branch.true at c.in_ok-advance.ensures in
    let reading = later_command g.O.Operation.operation_of g.O.Operation.numbers_in g.Q.Query.query_of c.args.callers in
    rw c.new.ensures (c.loop-place.invariant ∙ rw gone (front-end reading c.loop-place.place c.loop-place.commands.items))

pub returns-in_err-read_later : goal.returns-in_err-read_later
returns-in_err-read_later g c =
    let found = rw c.if-not-branch.false at c.in_ok-advance.ensures in
    let p = err_from_is_err_and c.from_residual-in_err-read_later.result c.from_residual-in_err-read_later.ensures.1 in
    let read = rw c.current.ensures at c.in_err-read_later.ensures in
    let reading = later_command g.O.Operation.operation_of g.O.Operation.numbers_in g.Q.Query.query_of c.args.callers in
    rw (p.1, p.2) (front-fault reading c.loop-place.place c.loop-place.commands.items (fields_of c.advance.new.self.current) c.advance.new.self.left c.in_err-read_later.field-0.0 _ read (rw found at c.loop-place.invariant))

pub loop-place-preserved : goal.loop-place-preserved
loop-place-preserved g c =
    let found = rw c.if-not-branch.false at c.in_ok-advance.ensures in
    let good : is_ok c.push-in-loop-place.result ≡ true = search rules in
    let items = rw good at c.push-in-loop-place.ensures.items in
    let read = rw c.current.ensures at c.in_ok-read_later.ensures in
    let reading = later_command g.O.Operation.operation_of g.O.Operation.numbers_in g.Q.Query.query_of c.args.callers in
    rw items ((rw found at c.loop-place.invariant)
    ∙ front-more reading c.loop-place.place c.loop-place.commands.items (fields_of c.advance.new.self.current) c.advance.new.self.left c.in_ok-read_later.field-0 read)
