use Rattle.std.proofs.Common.{◌∙◌, arith, subst, sym}
use Rattle.std.specs.List.{flat_map}
use Rattle.std.proofs.lemmas.Result.{IfOk-weaker}
use Rattle.map_model.specs.Entries.{IsIncreasing}
use Rattle.map_model.proofs.Operations.{IsIncreasing-build}
use Rattle.gathering.proofs.Sets.{halves_united}
use Rattle.gathering.proofs.gathering.GatheringDivideRefSliceUnitVecTuple2Unit.close.Goals as goal

pub both_of-requires-clause-left : goal.both_of-requires-clause-left
both_of-requires-clause-left g c =
    let given = g.W.Gives.given c.args.self.now.how.now in
    subst (IsIncreasing g.K.Ord.cmp) (sym (c.deref.ensures.value ∙ c.requires.front_answer)) (IsIncreasing-build g.met.K.Ord.total (flat_map given c.requires.front.now))

pub both_of-requires-clause-right : goal.both_of-requires-clause-right
both_of-requires-clause-right g c =
    let given = g.W.Gives.given c.args.self.now.how.now in
    subst (IsIncreasing g.K.Ord.cmp) (sym (c.deref-2.ensures.value ∙ c.requires.back_answer)) (IsIncreasing-build g.met.K.Ord.total (flat_map given c.requires.back.now))

pub returns-clause-answer : goal.returns-clause-answer
returns-clause-answer g c =
    let given = g.W.Gives.given c.args.self.now.how.now in
    IfOk-weaker c.both_of.result _ _ (λ out is part front back divided near far.
    halves_united g.met.K.Ord.total g.met.K.Key.exact given part.now front.now back.now c.deref.result.now c.deref-2.result.now out.items divided (c.deref.ensures.value ∙ near) (c.deref-2.ensures.value ∙ far) is) c.both_of.ensures

pub returns-clause-cost : goal.returns-clause-cost
returns-clause-cost g c = IfOk-weaker c.both_of.result _ _ (λ out is part front back divided near far. omega arith) c.both_of.ensures
