use Rattle.std.proofs.Common.{ap, ◌∙◌, arith, length}
use Rattle.std.specs.List.{filter as filtered}
use Rattle.aug_map.proofs.map.Map.filter_counted.Goals as goal

pub returns-clause-entries : goal.returns-clause-entries
returns-clause-entries g c = c.in_ok-tree.ensures.answer ∙ ap (λ m. filtered (λ e. g.T.Test.passes c.args.test.now e.0 e.1) m.entries) c.self.view_is

pub returns-clause-cost : goal.returns-clause-cost
returns-clause-cost g c = omega (arith, c.in_ok-tree.ensures.cost, ap (λ m. length m.entries) c.self.view_is)
