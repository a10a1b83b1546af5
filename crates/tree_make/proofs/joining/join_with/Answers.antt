use Rattle.map_model.specs.Balance.{weight}
use Rattle.map_model.proofs.Keys.{around}
use Rattle.tree_make.proofs.Levels.{cost_with}
use Rattle.tree_make.proofs.joining.join_with.Goals as goal

pub join_owned-requires-clause-below : goal.join_owned-requires-clause-below
join_owned-requires-clause-below g c = (around g.M.Key.Ord.cmp c.args.left.entries c.args.middle.0 c.args.middle.1 c.args.right.entries c.requires.increasing).lower

pub join_owned-requires-clause-above : goal.join_owned-requires-clause-above
join_owned-requires-clause-above g c = (around g.M.Key.Ord.cmp c.args.left.entries c.args.middle.0 c.args.middle.1 c.args.right.entries c.requires.increasing).upper

pub returns-clause-cost : goal.returns-clause-cost
returns-clause-cost g c = λ n few. cost_with g.M.Shape.BLOCK n (weight c.args.left.entries) (weight c.args.right.entries) c.args.steps.now c.join_owned.new.steps (c.join_owned.ensures.levels n) few
