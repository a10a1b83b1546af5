use Rattle.std.proofs.Common.{◌≡◌, ◌<◌, ◌++◌, ◌∷◌, [], ap, ap₂, arith, sym, ◌∙◌}
use Rattle.std.proofs.lemmas.Bool.Decides.{nat_tests}
use Rattle.std.specs.Map.{keys_of}
use Rattle.interval_map.proofs.Joins.{all_joined, joined, merged, one_done}
use Rattle.interval_map.proofs.intervals.Intervals.merged.Goals as goal

pub returns-in_default : goal.returns-in_default
returns-in_default c =
    let none = sym c.iter-entries.ensures ∙ c.in_default.ensures.steps.0 in
    merged c.self.inside.map c.args.self.now c.new-merged.result.items c.len-number.ensures.increasing c.self.invariant c.self.view_is
    (ap all_joined (sym c.self.view_is) ∙ ap (λ m. all_joined (keys_of m)) none ∙ sym c.new-merged.ensures.items)

pub loop-entry-init : goal.loop-entry-init
loop-entry-init c =
    let split = sym c.iter-entries.ensures ∙ c.in-Some.ensures.steps.1 in
    let here = rw c.in_ok-last.was at c.in-Some.ensures.steps.2 in
    ap all_joined (sym c.self.view_is)
    ∙ ap (λ m. all_joined (keys_of m)) split
    ∙ ap₂ (λ l m. joined l (keys_of m)) (sym (ap (λ x. x.0) here)) (sym c.into_iter-entry-iterator.ensures.into_iter_gives)
    ∙ ap (λ l. l ++ joined c.in_ok-last.last (keys_of c.into_iter-entry-iterator.result)) (sym c.new-merged.ensures.items)

pub loop-entry-preserved : goal.loop-entry-preserved
loop-entry-preserved c =
    let here = rw c.in_ok-next.was at c.in-Some-entry.ensures.steps.2 in
    let behind : c.loop-entry.last.second < c.in_ok-next.next.first = first_of (omega (arith, c.if-next-last.false), grind (arith, nat_tests)) in
    c.loop-entry.invariant
    ∙ ap (λ m. c.loop-entry.merged.items ++ joined c.loop-entry.last (keys_of m)) c.in-Some-entry.ensures.steps.1
    ∙ ap (λ i. c.loop-entry.merged.items ++ joined c.loop-entry.last (i ∷ keys_of c.next-in-loop-entry.new.self)) (sym (ap (λ x. x.0) here))
    ∙ one_done c.loop-entry.merged.items c.loop-entry.last c.in_ok-next.next (keys_of c.next-in-loop-entry.new.self) behind
    ∙ ap (λ l. l ++ joined c.in_ok-next.next (keys_of c.next-in-loop-entry.new.self)) (sym c.in_ok-push.ensures.items)

pub returns : goal.returns
returns c =
    merged c.self.inside.map c.args.self.now c.push-2.new.self.items c.len-number.ensures.increasing c.self.invariant c.self.view_is
    (c.loop-entry.invariant
    ∙ ap (λ m. c.loop-entry.merged.items ++ joined c.loop-entry.last (keys_of m)) c.in-None.ensures.steps.0
    ∙ sym c.in_ok-push-2.ensures.items)
