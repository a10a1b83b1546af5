use Rattle.std.proofs.Common.{◌+◌, ◌≤◌, length, arith}
use Rattle.std.proofs.lemmas.Result.{IfOk-weaker}
use Rattle.map_model.specs.Balance.{weight}
use Rattle.bulk_ops.specs.Costs.{levels}
use Rattle.bulk_ops.proofs.Combinations.{halves_rise, halves_combined, halves_short}
use Rattle.bulk_ops.proofs.Levels.{levels_low_part}
use Rattle.bulk_ops.proofs.combining.CombiningDivideTuple2TreeTreeOptionTuple2KeyValTree.close.Goals as goal

pub join_around_counted-requires : goal.join_around_counted-requires
join_around_counted-requires g c = record { increasing = halves_rise g.M.Key.Ord.cmp (g.W.Combination.combined c.args.self.now.how.now) c.args.left c.args.right c.args.middle c.requires }

pub returns-clause-answer : goal.returns-clause-answer
returns-clause-answer g c = IfOk-weaker c.join_around_counted.result _ _ (λ out is part front back put front_is back_is. halves_combined g.M.Key.Ord.cmp (g.W.Combination.combined c.args.self.now.how.now) c.args.left c.args.right out c.args.middle is part front back put front_is back_is) c.join_around_counted.ensures.entries

pub returns-clause-cost : goal.returns-clause-cost
returns-clause-cost g c = IfOk-weaker c.join_around_counted.result _ _ (λ out is part front back put front_is back_is.
    let few = halves_short g.M.Key.Ord.cmp (g.W.Combination.combined c.args.self.now.how.now) (g.met.W.Combination.laws c.args.self.now.how.now).short c.args.left c.args.right part front c.args.middle back put front_is back_is in
    let whole = length part.0.entries + length part.1.entries + 2 in
    let less : weight c.args.left.entries + weight c.args.right.entries ≤ whole = omega (arith, few) in
    c.join_around_counted.ensures.cost (levels whole) (levels_low_part g.M.Shape.BLOCK whole (weight c.args.left.entries + weight c.args.right.entries) g.M.Shape.lawful.0 less)) c.join_around_counted.ensures.entries
