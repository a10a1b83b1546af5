use Rattle.std.proofs.Common.{◌≡◌, ◌∙◌, ◌∷◌, [], ap, refl, sym, Ok}
use Rattle.csv.specs.Records.{fields_of}
use Rattle.script.specs.Records.{records_of}
use Rattle.script.specs.Results.{Gives}
use Rattle.serve_script.specs.Served.{IsServeInput, commands_in}
use Rattle.serve_script.proofs.ServedFacts.{commands-bad, commands-next, commands-none}
use Rattle.serve_script.proofs.ServedInput.{given, lawful_input}
use Rattle.serve_script.proofs.records.served_commands.Goals as goal

pub returns-then-not-branch-clause-exact : goal.returns-then-not-branch-clause-exact
returns-then-not-branch-clause-exact g c =
    let gone = rw c.if-not-branch.true at c.in_ok-advance.ensures in
    let none : records_of c.args.bytes.now ≡ [] = sym c.new-records.ensures ∙ gone in
    commands-none g.O.Operation.operation_of g.O.Operation.numbers_in g.Q.Query.query_of _ none ∙ ap Ok (sym (c.new-then-not-branch.ensures ∙ c.new.ensures.items))

pub returns-then-not-branch-clause-lawful : goal.returns-then-not-branch-clause-lawful
returns-then-not-branch-clause-lawful g c = rw (c.new-then-not-branch.ensures, c.new.ensures.items) (record { callers = tt; places = refl })

pub returns-in-Ok : goal.returns-in-Ok
returns-in-Ok g c =
    let found = rw c.if-not-branch.false at c.in_ok-advance.ensures in
    let some : records_of c.args.bytes.now ≡ fields_of c.advance.new.self.current ∷ c.advance.new.self.left = sym c.new-records.ensures ∙ found in
    let callers = rw c.current.ensures at c.in-Ok.ensures in
    let all = commands_in g.O.Operation.operation_of g.O.Operation.numbers_in g.Q.Query.query_of (records_of c.args.bytes.now) in
    let whole = commands-next g.O.Operation.operation_of g.O.Operation.numbers_in g.Q.Query.query_of (records_of c.args.bytes.now) (fields_of c.advance.new.self.current) c.advance.new.self.left c.in-Ok.callers some (sym callers) in
    let exact : Gives c.read_all.result all = rw whole c.read_all.ensures in
    record { exact = exact; lawful = given IsServeInput c.read_all.result all exact (lawful_input g.O.Operation.operation_of g.O.Operation.numbers_in g.Q.Query.query_of (records_of c.args.bytes.now)) }

pub returns-clause-exact : goal.returns-clause-exact
returns-clause-exact g c =
    let found = rw c.if-not-branch.false at c.in_ok-advance.ensures in
    let some : records_of c.args.bytes.now ≡ fields_of c.advance.new.self.current ∷ c.advance.new.self.left = sym c.new-records.ensures ∙ found in
    let callers = rw c.current.ensures at c.in-Err.ensures in
    commands-bad g.O.Operation.operation_of g.O.Operation.numbers_in g.Q.Query.query_of (records_of c.args.bytes.now) (fields_of c.advance.new.self.current) c.advance.new.self.left c.in-Err.code some (sym callers)
