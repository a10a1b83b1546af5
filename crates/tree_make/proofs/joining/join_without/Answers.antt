use Rattle.std.proofs.Common.{length}
use Rattle.map_model.specs.Balance.{weight}
use Rattle.map_model.proofs.Keys.{IsBefore-from_append}
use Rattle.tree_make.proofs.Levels.{cost_without}
use Rattle.tree_make.proofs.joining.join_without.Goals as goal

pub join2-requires : goal.join2-requires
join2-requires g c = record { before = IsBefore-from_append g.M.Key.Ord.cmp c.args.left.now.entries c.args.right.now.entries c.requires.increasing }

pub returns-clause-cost : goal.returns-clause-cost
returns-clause-cost g c = λ n few. cost_without g.M.Shape.BLOCK n c.args.right.now.height (weight c.args.left.now.entries) (length c.args.right.now.entries) c.args.steps.now c.join2.new.steps g.M.Shape.lawful.0 c.height-height.ensures.law (c.join2.ensures.levels n) few
