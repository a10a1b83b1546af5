use Rattle.std.proofs.Common.{rules, ◌≡◌, ◌∙◌, true}
use Rattle.std.specs.Result.{is_ok}
use Rattle.std.proofs.lemmas.Result.{err_from_is_err_and}
use Rattle.csv.specs.Records.{fields_of}
use Rattle.script.proofs.CommandFacts.{front-end, front-fault, front-more}
use Rattle.script.proofs.command.read_all.Goals as goal

pub returns-then-not-branch : goal.returns-then-not-branch
returns-then-not-branch g c =
    let gone = rw c.if-not-branch.true at c.in_ok-advance.ensures in
    rw c.new.ensures (c.loop-place.invariant ∙ rw gone (front-end g.C.Command.reading c.loop-place.place c.loop-place.commands.items))

pub returns-in_err-read_at : goal.returns-in_err-read_at
returns-in_err-read_at g c =
    let found = rw c.if-not-branch.false at c.in_ok-advance.ensures in
    let p = err_from_is_err_and c.from_residual-in_err-read_at.result c.from_residual-in_err-read_at.ensures.1 in
    let read = rw c.current.ensures at c.in_err-read_at.ensures in
    rw (p.1, p.2) (front-fault g.C.Command.reading c.loop-place.place c.loop-place.commands.items (fields_of c.advance.new.self.current) c.advance.new.self.left c.in_err-read_at.field-0.0 _ read (rw found at c.loop-place.invariant))

pub loop-place-preserved : goal.loop-place-preserved
loop-place-preserved g c =
    let found = rw c.if-not-branch.false at c.in_ok-advance.ensures in
    let good : is_ok c.push.result ≡ true = search rules in
    let items = rw good at c.push.ensures.items in
    let read = rw c.current.ensures at c.in_ok-read_at.ensures in
    rw items ((rw found at c.loop-place.invariant)
    ∙ front-more g.C.Command.reading c.loop-place.place c.loop-place.commands.items (fields_of c.advance.new.self.current) c.advance.new.self.left c.in_ok-read_at.field-0 read)
