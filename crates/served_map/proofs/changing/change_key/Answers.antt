use Rattle.std.proofs.lemmas.Result.{IfOk-weaker}
use Rattle.served_map.proofs.Changed.{added_given, gone_given, set_given}
use Rattle.served_map.proofs.changing.change_key.Goals as goal

pub returns-in-Set : goal.returns-in-Set
returns-in-Set g c = IfOk-weaker c.put_mut.result _ _ (λ done is. set_given c.args.map.now.entries c.put_mut.new.self.entries c.args.key c.in-Set.val c.args.outcome c.in-Set.is c.size-rises.ensures.increasing is) c.put_mut.ensures.entries

pub returns-in-Gone : goal.returns-in-Gone
returns-in-Gone g c = IfOk-weaker c.del_mut.result _ _ (λ done is. gone_given c.args.map.now.entries c.del_mut.new.self.entries c.args.key c.args.outcome c.in-Gone.is c.size-rises.ensures.increasing is) c.del_mut.ensures.entries

pub returns-in-Added : goal.returns-in-Added
returns-in-Added g c = IfOk-weaker c.put_with.result _ _ (λ done is. added_given c.args.map.now.entries c.put_with.new.self.entries c.args.key c.in-Added.val c.args.outcome c.in-Added.is c.size-rises.ensures.increasing is) c.put_with.ensures.entries
