use Rattle.std.proofs.Common.{ap, ◌∙◌}
use Rattle.std.proofs.lemmas.Result.{IfOk-weaker}
use Rattle.map_model.specs.SetOperations.{union}
use Rattle.map_model.proofs.Operations.{union-build}
use Rattle.aug_map.proofs.map.Map.multi_put.Goals as goal

pub returns : goal.returns
returns g c =
    let ord = g.met.M.Key.Ord g.world.𝓛 g.world.𝓜 g.world.𝓡 ((λ s x. x), (λ x. x), (λ x. x), λ x. x) in
    let key = g.met.M.Key.Key g.world.𝓛 g.world.𝓜 g.world.𝓡 ((λ s x. x), (λ x. x), (λ x. x), λ x. x) in
    let m = c.args.self.now.entries in
    IfOk-weaker c.union.result _ _ (λ out is. is ∙ ap (union g.M.Key.Ord.cmp (λ v w. w) m) (c.in_ok-newer.ensures) ∙ union-build ord.total key.exact m c.args.pairs.now c.size-size.ensures.increasing) c.union.ensures
