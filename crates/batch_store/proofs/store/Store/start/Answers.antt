use Rattle.batch_store.proofs.Opened.{new_store_with, new_received}
use Rattle.batch_store.proofs.store.Store.start.Goals as goal

pub invariant_of-result : goal.invariant_of-result
invariant_of-result g c = (new_received c.args.base c.args.callers c.in_ok-writer.writer c.in_ok-writer.readers.items c.in_ok-intakes.intakes.items c.in_ok-inbox.inbox.intakes.items c.in_ok-inbox.inbox.pending.items c.in_ok-intakes.callers.items c.requires.1 c.in_ok-writer.ensures c.in_ok-intakes.ensures c.in_ok-inbox.ensures.0 c.in_ok-inbox.ensures.1, c.in_ok-inbox.ensures.2)

pub returns : goal.returns
returns g c = new_store_with c.args.base c.args.callers c.in_ok-writer.writer c.in_ok-writer.readers.items c.in_ok-intakes.intakes.items c.in_ok-inbox.inbox.intakes.items c.in_ok-inbox.inbox.pending.items c.in_ok-intakes.callers.items c.in_ok-writer.ensures c.in_ok-intakes.ensures c.in_ok-inbox.ensures.0 c.in_ok-inbox.ensures.1
