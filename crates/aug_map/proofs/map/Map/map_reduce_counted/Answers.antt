use Rattle.std.proofs.Common.{IfOk, ◌+◌, ◌*◌, ◌≤◌, length, subst}
use Rattle.aug_map.proofs.map.Map.map_reduce_counted.Goals as goal

pub returns-clause-cost : goal.returns-clause-cost
returns-clause-cost g c = subst (λ m. IfOk c.divide_alone.result (λ _. c.divide_alone.new.steps ≤ c.args.steps.now + 2 * length m.entries)) c.self.view_is c.divide_alone.ensures.cost
