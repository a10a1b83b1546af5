use Rattle.std.proofs.Common.{[], refl, sym, arith, ◌∙◌}
use Rattle.std.proofs.lemmas.List.{append-nil}
use Rattle.batch_store.proofs.Taking.{taken-none}
use Rattle.batch_store.proofs.Heard.{lane_at, at_now, collect_turn, collect_step, put_back, heard_still}
use Rattle.batch_store.proofs.collecting.collect_all.Goals as goal

pub loop-at-init : goal.loop-at-init
loop-at-init g c =
    (refl, ([], sym (append-nil _), taken-none _), c.requires.heard, record { each = λ i d e below within. absurd (omega arith) })

pub collect_from-requires : goal.collect_from-requires
collect_from-requires g c =
    lane_at c.loop-at.intakes c.loop-at.callers (at_now c.args.intakes.now c.loop-at.intakes c.args.callers.now c.loop-at.callers c.loop-at.invariant.1.2.lanes c.loop-at.invariant.0 c.requires.at) c.loop-at.at c.index-intakes-at.result c.index-callers-at.result (omega arith)

pub returns-in_err-collect_from-clause-took : goal.returns-in_err-collect_from-clause-took
returns-in_err-collect_from-clause-took g c =
    collect_turn c.args.intakes.now c.loop-at.intakes c.loop-at.callers c.loop-at.at c.collect_from.new.intake c.index-intakes-at.result c.index-callers-at.result c.args.pending.now.items c.loop-at.pending.items c.collect_from.new.pending.items
    (at_now c.args.intakes.now c.loop-at.intakes c.args.callers.now c.loop-at.callers c.loop-at.invariant.1.2.lanes c.loop-at.invariant.0 c.requires.at) c.loop-at.invariant.1 (omega arith) c.collect_from.ensures.lane c.collect_from.ensures.took

pub loop-at-preserved : goal.loop-at-preserved
loop-at-preserved g c =
    collect_step c.args.intakes.now c.loop-at.intakes c.args.callers.now c.loop-at.callers c.loop-at.at c.collect_from.new.intake c.index-intakes-at.result c.collect_from.new.caller c.index-callers-at.result c.args.pending.now.items c.loop-at.pending.items c.collect_from.new.pending.items
    c.requires.at c.loop-at.invariant (omega arith) c.collect_from.ensures.lane c.collect_from.ensures.caller c.collect_from.ensures.took c.in_ok-collect_from.ensures.ok

pub returns-in_err-collect_from-clause-callers : goal.returns-in_err-collect_from-clause-callers
returns-in_err-collect_from-clause-callers g c = put_back c.loop-at.callers c.loop-at.at c.collect_from.new.caller c.index-callers-at.result c.collect_from.ensures.caller ∙ c.loop-at.invariant.0

pub returns-in_err-collect_from-clause-heard : goal.returns-in_err-collect_from-clause-heard
returns-in_err-collect_from-clause-heard g c =
    heard_still c.loop-at.intakes c.loop-at.callers c.loop-at.at c.collect_from.new.intake c.index-intakes-at.result c.collect_from.new.caller c.index-callers-at.result c.in_err-collect_from.ensures.err c.collect_from.ensures.caller c.loop-at.invariant.2
