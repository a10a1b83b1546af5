use Rattle.std.proofs.Common.{◌*◌, ◌≤◌, length, arith, ap, ◌∙◌}
use Rattle.std.proofs.lemmas.Result.{IfOk-weaker}
use Rattle.map_model.specs.SetOperations.{union}
use Rattle.map_model.proofs.Operations.{union-build}
use Rattle.aug_map.proofs.BatchCosts.{combined_within, length-build_le}
use Rattle.aug_map.proofs.map.Map.multi_put_counted.Goals as goal

pub returns-clause-entries : goal.returns-clause-entries
returns-clause-entries g c =
    let m = c.args.self.now.entries in
    IfOk-weaker c.union_counted.result _ _ (λ out is. is ∙ ap (union g.M.Key.Ord.cmp (λ v w. w) m) c.in_ok-newer.ensures.entries ∙ union-build g.met.M.Key.Ord.total g.met.M.Key.Key.exact m c.args.pairs.now c.size-size.ensures.increasing) c.union_counted.ensures.entries

pub returns-clause-cost : goal.returns-clause-cost
returns-clause-cost g c =
    let pairs = c.args.pairs.now in
    let newer = c.in_ok-newer.newer.entries in
    let fewer : length newer ≤ length pairs =
    omega (arith, ap length c.in_ok-newer.ensures.entries, length-build_le g.met.M.Key.Ord.total g.met.M.Key.Key.exact pairs) in
    IfOk-weaker c.union_counted.result _ _ (λ out cost levels deep.
    combined_within g.M.Shape.BLOCK g.M.Leaf.Leaf.FIND (length c.args.self.now.entries) (length newer) (length pairs) levels c.args.steps.now _ _ (3 * length pairs)
    fewer c.in_ok-newer.ensures.cost (cost levels) deep) c.union_counted.ensures.cost
