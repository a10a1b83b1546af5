use Rattle.std.proofs.Common.{◌≡◌, ◌+◌, ◌-◌, ◌≤◌, [], ◌∷◌, ◌++◌, ◌∙◌, length, refl, sym, ap, ap₂, arith}
use Rattle.std.specs.List.{slice_range}
use Rattle.pac_seq.proofs.Spans.{first_of, last_taken, nothing}
use Rattle.pac_seq.proofs.back.CursorOverDoubleEndedIterator.next_back.Goals as goal

pub returns-in-Between-clause-steps : goal.returns-in-Between-clause-steps
returns-in-Between-clause-steps g c =
    let cursor = c.self.inside in
    let item = c.in-Between.item.now in
    let es = cursor.tree.now.items in
    let place = cursor.to - 1 in
    let none = c.in_default.ensures.cases in
    let next : cursor.to ≡ place + 1 = omega (arith, c.if-self.false) in
    let le : cursor.from + 0 ≤ place = omega (arith, c.if-self.false) in
    let few : place ≤ length es = omega (arith, c.self.invariant) in
    let last = last_taken es [] (item ∷ []) cursor.front.now cursor.back.now item cursor.from 0 place cursor.to none c.in-Between.ensures.ahead c.in-Between.ensures.behind next refl (omega arith) le few in
    let same : place - 0 ≡ place = omega arith in
    let is = sym (nothing cursor.back.now none) in
    sym c.self.view_is ∙ last ∙ ap₂ (λ n l. (cursor.front.now ++ slice_range es cursor.from n ++ l) ++ item ∷ []) same is

pub returns-in-Inside-clause-steps : goal.returns-in-Inside-clause-steps
returns-in-Inside-clause-steps g c =
    let cursor = c.self.inside in
    let es = cursor.tree.now.items in
    let before = c.in-Inside.before.now in
    let items = c.in-Inside.items.now in
    let place = cursor.to - 1 in
    let count = c.min-count.result in
    let next : cursor.to ≡ place + 1 = omega (arith, c.if-self.false) in
    let within : count ≤ length before = omega (arith, c.min-count.ensures) in
    let le : cursor.from + count ≤ place = omega (arith, c.min-count.ensures, c.if-self.false) in
    let few : place ≤ length es = omega (arith, c.self.invariant) in
    let one = first_of items c.index-items-0.result c.in-Inside.ensures.ahead.some c.index-items-0.is in
    let last = last_taken es before items cursor.front.now cursor.back.now c.index-items-0.result cursor.from count place cursor.to c.in_default.ensures.cases c.in-Inside.ensures.ahead c.in-Inside.ensures.behind next one within le few in
    sym c.self.view_is ∙ last ∙ ap (λ l. (cursor.front.now ++ slice_range es cursor.from (place - count) ++ l) ++ c.index-items-0.result ∷ []) (sym c.split_at.ensures.back)
