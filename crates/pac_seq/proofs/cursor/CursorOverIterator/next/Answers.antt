use Rattle.std.proofs.Common.{◌+◌, ◌≤◌, [], ◌∷◌, ◌∙◌, length, sym, ap, arith}
use Rattle.pac_seq.proofs.Spans.{first_taken, nothing}
use Rattle.pac_seq.proofs.cursor.CursorOverIterator.next.Goals as goal

pub returns-in-Between-clause-steps : goal.returns-in-Between-clause-steps
returns-in-Between-clause-steps g c =
    let cursor = c.self.inside in
    let item = c.in-Between.item.now in
    let none = c.in_default.ensures.cases in
    let is = sym (nothing cursor.front.now none) in
    sym c.self.view_is ∙ first_taken cursor.tree.now.items (item ∷ []) cursor.front.now cursor.back.now cursor.front.now item cursor.from 1 cursor.to none c.in-Between.ensures.ahead (omega arith) (omega (arith, c.if-self.false)) (ap (λ l. item ∷ l) is)

pub returns-in_ok-first-in-Inside-clause-steps : goal.returns-in_ok-first-in-Inside-clause-steps
returns-in_ok-first-in-Inside-clause-steps g c =
    let cursor = c.self.inside in
    let run = c.in_ok-first-in-Inside in
    let items = c.in-Inside.items.now in
    let count = c.min-count.result in
    let within : count ≤ length items = omega (arith, c.min-count.ensures) in
    let le : cursor.from + count ≤ cursor.to = omega (arith, c.min-count.ensures, c.if-self.false) in
    let is = sym c.split_at.ensures.front ∙ run.ensures.cases.0 in
    sym c.self.view_is ∙ first_taken cursor.tree.now.items items cursor.front.now cursor.back.now run.rest.now run.first.now cursor.from count cursor.to c.in_default.ensures.cases c.in-Inside.ensures.ahead within le is

pub returns-in_ok-first-in-Inside-clause-goes : goal.returns-in_ok-first-in-Inside-clause-goes
returns-in_ok-first-in-Inside-clause-goes g c =
    let is = returns-in_ok-first-in-Inside-clause-steps g c in
    record { on = λ finite. (tt, tt, omega (arith, ap length is)); keeps = tt; rests = λ finite. tt }
