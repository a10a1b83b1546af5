use Rattle.std.proofs.Common.{[], sym, arith}
use Rattle.std.proofs.lemmas.List.{append-nil}
use Rattle.batch_store.proofs.Taking.{taken-none, taken-turn}
use Rattle.batch_store.proofs.inbox.take_all.Goals as goal

pub loop-caller-init : goal.loop-caller-init
loop-caller-init g c = (c.requires.room, ([], sym (append-nil _), taken-none _))

pub returns-in_err-take-clause-took : goal.returns-in_err-take-clause-took
returns-in_err-take-clause-took g c =
    taken-turn c.args.intakes.now c.loop-caller.intakes c.loop-caller.caller c.take.new.intake c.index-intakes-caller.result c.args.pending.now.items c.loop-caller.pending.items c.take.new.pending.items
    c.loop-caller.invariant.1 (omega arith) c.take.ensures.lane c.take.ensures.took

pub loop-caller-preserved : goal.loop-caller-preserved
loop-caller-preserved g c = (
  c.take.ensures.room,
  taken-turn c.args.intakes.now c.loop-caller.intakes c.loop-caller.caller c.take.new.intake c.index-intakes-caller.result c.args.pending.now.items c.loop-caller.pending.items c.take.new.pending.items
      c.loop-caller.invariant.1 (omega arith) c.take.ensures.lane c.take.ensures.took,
)
