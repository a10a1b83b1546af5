use Rattle.std.proofs.Common.{ap, ◌∙◌}
use Rattle.std.proofs.lemmas.Result.{IfOk-weaker}
use Rattle.map_model.specs.SetOperations.{difference}
use Rattle.map_model.specs.Operations.{build, found_in}
use Rattle.map_model.proofs.Removals.{difference-found}
use Rattle.aug_map.proofs.map.Map.multi_del.Goals as goal

pub returns : goal.returns
returns g c =
    let ord = g.met.M.Key.Ord g.world.𝓛 g.world.𝓜 g.world.𝓡 ((λ s x. x), (λ x. x), (λ x. x), λ x. x) in
    let key = g.met.M.Key.Key g.world.𝓛 g.world.𝓜 g.world.𝓡 ((λ s x. x), (λ x. x), (λ x. x), λ x. x) in
    let cmp = g.M.Key.Ord.cmp in
    let m = c.args.self.now.entries in
    let gone = c.in_ok-gone.ensures ∙ ap (build cmp) (c.deref.ensures.value ∙ c.in_ok-found.ensures ∙ ap (λ map. found_in cmp map.entries c.args.keys.now) c.self.view_is) in
    IfOk-weaker c.difference.result _ _ (λ out is. is ∙ ap (difference cmp m) gone ∙ difference-found ord.total key.exact m c.args.keys.now c.size-size.ensures.increasing) c.difference.ensures
