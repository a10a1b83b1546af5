use Rattle.std.proofs.Common.{ap, List, ◌++◌}
use Rattle.batch_store.proofs.Taking.{received-turn, received-kept, received-published}
use Rattle.batch_store.proofs.store.Store.turn.Goals as goal

pub invariant_of-self : goal.invariant_of-self
invariant_of-self g c = (received-turn c.self.inside.writer.journal c.self.inside.inbox.pending.items c.take.new.self.pending.items c.self.inside.inbox.intakes.items c.take.new.self.intakes.items c.self.invariant.0 c.take.ensures.took, c.take.ensures.room)

pub returns-in_err-take-clause-received : goal.returns-in_err-take-clause-received
returns-in_err-take-clause-received g c = received-turn c.self.inside.writer.journal c.self.inside.inbox.pending.items c.take.new.self.pending.items c.self.inside.inbox.intakes.items c.take.new.self.intakes.items c.self.invariant.0 c.take.ensures.took

pub invariant_of-self-in_err-number : goal.invariant_of-self-in_err-number
invariant_of-self-in_err-number g c = (received-kept (ap (λ l. l ++ c.take.new.self.pending.items) c.in_err-number.ensures.err) (received-turn c.self.inside.writer.journal c.self.inside.inbox.pending.items c.take.new.self.pending.items c.self.inside.inbox.intakes.items c.take.new.self.intakes.items c.self.invariant.0 c.take.ensures.took), c.take.ensures.room)

pub returns-in_err-number-clause-received : goal.returns-in_err-number-clause-received
returns-in_err-number-clause-received g c = received-kept (ap (λ l. l ++ c.take.new.self.pending.items) c.in_err-number.ensures.err) (received-turn c.self.inside.writer.journal c.self.inside.inbox.pending.items c.take.new.self.pending.items c.self.inside.inbox.intakes.items c.take.new.self.intakes.items c.self.invariant.0 c.take.ensures.took)

pub invariant_of-self-2 : goal.invariant_of-self-2
invariant_of-self-2 g c = (received-published c.self.inside.writer.journal c.take.new.self.pending.items c.clear.new.self.items c.as_slice-pending.result.now c.publish_all.new.writer.journal c.take.new.self.intakes.items (received-turn c.self.inside.writer.journal c.self.inside.inbox.pending.items c.take.new.self.pending.items c.self.inside.inbox.intakes.items c.take.new.self.intakes.items c.self.invariant.0 c.take.ensures.took) c.as_slice-pending.ensures.value c.in_ok-number.ensures.ok c.clear.ensures.items, c.take.ensures.room)

pub returns-clause-received : goal.returns-clause-received
returns-clause-received g c = received-published c.self.inside.writer.journal c.take.new.self.pending.items c.clear.new.self.items c.as_slice-pending.result.now c.publish_all.new.writer.journal c.take.new.self.intakes.items (received-turn c.self.inside.writer.journal c.self.inside.inbox.pending.items c.take.new.self.pending.items c.self.inside.inbox.intakes.items c.take.new.self.intakes.items c.self.invariant.0 c.take.ensures.took) c.as_slice-pending.ensures.value c.in_ok-number.ensures.ok c.clear.ensures.items
