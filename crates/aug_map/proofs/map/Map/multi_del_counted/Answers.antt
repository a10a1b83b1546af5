use Rattle.std.proofs.Common.{◌+◌, ◌*◌, ◌≤◌, length, arith, ap, ◌∙◌}
use Rattle.std.proofs.lemmas.Result.{IfOk-weaker}
use Rattle.map_model.specs.SetOperations.{difference}
use Rattle.map_model.specs.Operations.{build, found_in}
use Rattle.map_model.proofs.Removals.{difference-found}
use Rattle.aug_map.proofs.BatchCosts.{combined_within, length-build_le, length-found_le}
use Rattle.aug_map.proofs.map.Map.multi_del_counted.Goals as goal

pub returns-clause-entries : goal.returns-clause-entries
returns-clause-entries g c =
    let cmp = g.M.Key.Ord.cmp in
    let m = c.args.self.now.entries in
    let gone = c.in_ok-gone.ensures.entries ∙ ap (build cmp) (c.deref.ensures.value ∙ c.in_ok-found.ensures.value ∙ ap (λ map. found_in cmp map.entries c.args.keys.now) c.self.view_is) in
    IfOk-weaker c.difference_counted.result _ _ (λ out is. is ∙ ap (difference cmp m) gone ∙ difference-found g.met.M.Key.Ord.total g.met.M.Key.Key.exact m c.args.keys.now c.size-size.ensures.increasing) c.difference_counted.ensures.entries

pub returns-clause-cost : goal.returns-clause-cost
returns-clause-cost g c =
    let cmp = g.M.Key.Ord.cmp in
    let m = c.args.self.now in
    let find = g.M.Leaf.Leaf.FIND in
    let keys = c.args.keys.now in
    let listed = c.deref.result.now in
    let gone = c.in_ok-gone.gone.entries in
    let found = c.deref.ensures.value ∙ c.in_ok-found.ensures.value ∙ ap (λ map. found_in cmp map.entries keys) c.self.view_is in
    let short : length listed ≤ length keys =
    omega (arith, ap length found, length-found_le cmp m.entries keys) in
    let fewer : length gone ≤ length keys =
    omega (arith, short, ap length c.in_ok-gone.ensures.entries, length-build_le g.met.M.Key.Ord.total g.met.M.Key.Key.exact listed) in
    let same = ap (λ map. length keys * (map.height + find)) c.self.view_is in
    let start : c.build_counted.new.steps ≤ c.args.steps.now + (length keys * (m.height + find) + 3 * length keys) = omega (arith, short, same, c.in_ok-found.ensures.cost, c.in_ok-gone.ensures.cost) in
    IfOk-weaker c.difference_counted.result _ _ (λ out cost levels deep.
    combined_within g.M.Shape.BLOCK find (length m.entries) (length gone) (length keys) levels c.args.steps.now _ _ (length keys * (m.height + find) + 3 * length keys)
    fewer start (cost levels) deep) c.difference_counted.ensures.cost
