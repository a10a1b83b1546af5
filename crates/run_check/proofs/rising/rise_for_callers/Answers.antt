use Rattle.std.proofs.Common.{◌≡◌, ◌<◌, false, true, length, get_or, ap, ◌∙◌, arith}
use Rattle.std.proofs.lemmas.List.{get_or_default, get_or-replicate, length-replicate}
use Rattle.run_check.proofs.NeverFalling.{rises_none, rises_on, rises_not, rises_all}
use Rattle.run_check.proofs.rising.rise_for_callers.Goals as goal

pub loop-step-init : goal.loop-step-init
loop-step-init c =
    let items = c.in_ok-last.ensures in
    let count : length c.in_ok-last.last.items ≡ c.args.callers = ap length items ∙ length-replicate c.args.callers 0 in
    rises_none c.args.callers c.args.steps.now c.in_ok-last.last.items count (λ k d h. ap (λ l. get_or l k d) items ∙ get_or-replicate c.args.callers k 0 d h)

pub returns-then-step-index : goal.returns-then-step-index
returns-then-step-index c =
    let i = c.loop-step.step-index in
    let steps = c.args.steps.now in
    let s = get_or steps i (record { caller = 0; number = 0 }) in
    let inside : i < length steps = omega arith in
    let least : s.number < get_or c.loop-step.last.items s.caller 0 = omega arith in (
      λ wrong. absurd (let z : false ≡ true = wrong in cc),
      λ all. absurd (rises_not steps i s inside (get_or_default steps i (record { caller = 0; number = 0 }) s inside) c.args.callers c.loop-step.last.items c.loop-step.invariant (c.requires i (record { caller = 0; number = 0 }) inside) least all),
    )

pub loop-step-preserved : goal.loop-step-preserved
loop-step-preserved c =
    let i = c.loop-step.step-index in
    let steps = c.args.steps.now in
    let s = get_or steps i (record { caller = 0; number = 0 }) in
    let inside : i < length steps = omega arith in
    rises_on steps i s inside (get_or_default steps i (record { caller = 0; number = 0 }) s inside) c.args.callers c.loop-step.last.items c.loop-step.invariant (c.requires i (record { caller = 0; number = 0 }) inside) (omega arith)

pub returns : goal.returns
returns c = (λ right. rises_all c.args.callers c.args.steps.now c.loop-step.step-index c.loop-step.last.items (omega arith) c.requires c.loop-step.invariant, λ all. let z : true ≡ true = λ i. true in z)
