use Rattle.std.proofs.Common.{◌≡◌, ◌∷◌, ◌++◌, arith, subst}
use Rattle.std.proofs.lemmas.Grind.{common_steps}
use Rattle.map_model.specs.Entries.{IsIncreasing}
use Rattle.map_model.proofs.Keys.{IsIncreasing-front, IsIncreasing-back}
use Rattle.bulk_passes.proofs.planting.halves.Goals as goal

pub returns-clause-front_increases : goal.returns-clause-front_increases
returns-clause-front_increases g c =
    let parts : c.args.entries.now ≡ c.split_at.result.0.now ++ c.in_ok-middle.middle.now ∷ c.in_ok-middle.back.now = grind (arith, common_steps) in
    IsIncreasing-front g.K.Ord.cmp _ _ (subst (IsIncreasing g.K.Ord.cmp) parts c.requires)

pub returns-clause-back_increases : goal.returns-clause-back_increases
returns-clause-back_increases g c =
    let parts : c.args.entries.now ≡ c.split_at.result.0.now ++ c.in_ok-middle.middle.now ∷ c.in_ok-middle.back.now = grind (arith, common_steps) in
    (IsIncreasing-back g.K.Ord.cmp c.split_at.result.0.now _ (subst (IsIncreasing g.K.Ord.cmp) parts c.requires)).1
