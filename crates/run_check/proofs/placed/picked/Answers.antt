use Rattle.std.proofs.Common.{◌≢◌, get_or, arith}
use Rattle.std.proofs.lemmas.List.Elements.{All-map}
use Rattle.run_check.specs.Placing.{tags_of}
use Rattle.run_check.proofs.Keyed.{missing}
use Rattle.run_check.proofs.Placings.{picked_more}
use Rattle.run_check.proofs.placed.picked.Goals as goal

pub returns-in_default : goal.returns-in_default
returns-in_default g c =
    let i = c.loop-number.number-index in
    missing (tags_of c.args.placed.now) c.args.order.now i 0 (omega arith) (All-map (λ n. n ≢ get_or c.args.order.now i 0) (λ p. p.entry.tag) c.args.placed.now c.in_default.ensures)

pub loop-number-preserved : goal.loop-number-preserved
loop-number-preserved g c =
    let i = c.loop-number.number-index in
    let p = c.in-Some.p.now in
    let more = picked_more c.args.placed.now c.loop-number.picked.items c.push.new.self.items c.args.order.now i p (record { round = p.round; entry = c.in_ok-share.field-0 }) (omega arith)
    (λ j. record { round = p.round; entry = c.in_ok-share.ensures.value j }) c.in_ok-push.ensures.items c.in-Some.ensures.0 c.in-Some.ensures.1 c.loop-number.invariant.tags c.loop-number.invariant.only in
    record { tags = more.0; only = more.1 }
