use Rattle.std.proofs.Common.{arith, sym, subst}
use Rattle.std.proofs.lemmas.Result.{IfOk-weaker}
use Rattle.op_runs.specs.Runs.{IsChangedBy}
use Rattle.served_map.proofs.dividing.ChangingDivideTuple2ServedMapRefSliceTuple2U64OutcomeOptionTuple2U64U64ServedMap.close.Goals as goal

pub join_around-requires : goal.join_around-requires
join_around-requires g c = (c.requires.divided.joined c.args.left.entries c.args.right.entries c.requires.front_answer c.requires.back_answer).rises

pub returns-clause-answer : goal.returns-clause-answer
returns-clause-answer g c =
    IfOk-weaker c.join_around.result _ _ (λ out is part front back divided near far.
    subst (IsChangedBy part.1.now part.0.entries) (sym is) (divided.joined c.args.left.entries c.args.right.entries near far)) c.join_around.ensures

pub returns-clause-cost : goal.returns-clause-cost
returns-clause-cost g c = IfOk-weaker c.join_around.result _ _ (λ out is part front back divided near far. omega arith) c.join_around.ensures
