use Rattle.std.proofs.Common.{refl, inl, inr, ◌∙◌}
use Rattle.batch_store.proofs.Taking.{received-turn, received-kept}
use Rattle.batch_store.proofs.Rounds.{whole_of, told_none, keeps, ends}
use Rattle.batch_store.proofs.store.Store.end_round.Goals as goal

pub invariant_of-self : goal.invariant_of-self
invariant_of-self g c = (received-turn c.self.inside.writer.journal c.self.inside.inbox.pending.items c.gather.new.inbox.pending.items c.self.inside.inbox.intakes.items c.gather.new.inbox.intakes.items c.self.invariant.0 c.gather.ensures.took, c.gather.ensures.room ∙ c.self.invariant.1)

pub returns-in_err-gather-clause-keeps : goal.returns-in_err-gather-clause-keeps
returns-in_err-gather-clause-keeps g c = keeps c.self.inside.writer c.self.inside.writer c.self.inside.inbox.intakes.items c.gather.new.inbox.intakes.items c.self.inside.inbox.pending.items c.gather.new.inbox.pending.items c.gather.new.inbox.pending.items c.args.callers.now c.gather.new.callers c.gather.new.callers c.args.self.now c.self.view_is c.self.invariant.0 c.requires c.gather.ensures.took c.gather.ensures.callers c.gather.ensures.before c.gather.ensures.heard (refl, refl) refl (told_none _ _)

pub invariant_of-self-in_err-number : goal.invariant_of-self-in_err-number
invariant_of-self-in_err-number g c = (received-kept (whole_of c.close.ensures.whole) (received-turn c.self.inside.writer.journal c.self.inside.inbox.pending.items c.gather.new.inbox.pending.items c.self.inside.inbox.intakes.items c.gather.new.inbox.intakes.items c.self.invariant.0 c.gather.ensures.took), c.gather.ensures.room ∙ c.self.invariant.1)

pub returns-in_err-number-clause-keeps : goal.returns-in_err-number-clause-keeps
returns-in_err-number-clause-keeps g c = keeps c.self.inside.writer c.close.new.writer c.self.inside.inbox.intakes.items c.gather.new.inbox.intakes.items c.self.inside.inbox.pending.items c.gather.new.inbox.pending.items c.close.new.pending.items c.args.callers.now c.gather.new.callers c.close.new.callers c.args.self.now c.self.view_is c.self.invariant.0 c.requires c.gather.ensures.took c.gather.ensures.callers c.gather.ensures.before c.gather.ensures.heard c.close.ensures.root (whole_of c.close.ensures.whole) c.close.ensures.callers

pub invariant_of-self-2 : goal.invariant_of-self-2
invariant_of-self-2 g c = (received-kept (whole_of c.close.ensures.whole) (received-turn c.self.inside.writer.journal c.self.inside.inbox.pending.items c.gather.new.inbox.pending.items c.self.inside.inbox.intakes.items c.gather.new.inbox.intakes.items c.self.invariant.0 c.gather.ensures.took), c.gather.ensures.room ∙ c.self.invariant.1)

pub returns-clause-keeps : goal.returns-clause-keeps
returns-clause-keeps g c = keeps c.self.inside.writer c.close.new.writer c.self.inside.inbox.intakes.items c.gather.new.inbox.intakes.items c.self.inside.inbox.pending.items c.gather.new.inbox.pending.items c.close.new.pending.items c.args.callers.now c.gather.new.callers c.close.new.callers c.args.self.now c.self.view_is c.self.invariant.0 c.requires c.gather.ensures.took c.gather.ensures.callers c.gather.ensures.before c.gather.ensures.heard c.close.ensures.root (whole_of c.close.ensures.whole) c.close.ensures.callers

pub returns-clause-ok : goal.returns-clause-ok
returns-clause-ok g c = ends c.self.inside.writer c.close.new.writer c.self.inside.inbox.intakes.items c.gather.new.inbox.intakes.items c.self.inside.inbox.pending.items c.gather.new.inbox.pending.items c.close.new.pending.items c.args.callers.now c.gather.new.callers c.close.new.callers c.args.self.now c.self.view_is c.self.invariant.0 c.requires c.gather.ensures.took c.gather.ensures.callers c.in_ok-gather.ensures.ok c.in_ok-number.ensures.published c.close.ensures.callers c.in_ok-number.ensures.seen
