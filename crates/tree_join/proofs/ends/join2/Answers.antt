use Rattle.std.proofs.Common.{◌≡◌, ◌+◌, ◌*◌, ◌≤◌, ◌∷◌, length, ap, arith}
use Rattle.std.specs.declared.cmp.Ordering.TheVariants.{Less}
use Rattle.map_model.specs.Balance.{weight}
use Rattle.map_model.specs.Entries.{AllAbove}
use Rattle.map_model.proofs.Keys.{AllKeys-map}
use Rattle.tree_shape.specs.Shape.{link_cost}
use Rattle.tree_join.proofs.Levels.{joined_levels}
use Rattle.tree_join.proofs.ends.join2.Goals as goal

pub join-requires-clause-below : goal.join-requires-clause-below
join-requires-clause-below g c =
    let order = g.M.Key.Ord.cmp in
    AllKeys-map (λ a. AllAbove order ((c.in_ok-first.first.key, c.in_ok-first.first.val) ∷ c.in_ok-first.first.rest.entries) a) (λ a. order a c.in_ok-first.first.key ≡ Less) (λ a h. h.0) c.args.left.now.entries (rw c.in_ok-first.ensures.entries at c.requires.before)

pub join-requires-clause-above : goal.join-requires-clause-above
join-requires-clause-above g c = (rw c.in_ok-first.ensures.entries at c.size.ensures.increasing).0

pub returns-clause-entries : goal.returns-clause-entries
returns-clause-entries g c = rw c.in_ok-first.ensures.entries c.join.ensures.entries

pub returns-clause-cost : goal.returns-clause-cost
returns-clause-cost g c = λ balanced.
    let size = ap length c.in_ok-first.ensures.entries in
    let lower : weight c.args.left.now.entries ≤ 3 * weight c.in_ok-first.first.rest.entries + 3 = omega (arith, size, balanced.0) in
    let upper : weight c.in_ok-first.first.rest.entries ≤ 3 * weight c.args.left.now.entries + 3 = omega (arith, size, balanced.1) in
    omega (arith, c.join.ensures.cost lower upper, c.in_ok-first.ensures.cost)

pub returns-clause-levels : goal.returns-clause-levels
returns-clause-levels g c = λ n few.
    let size = ap length c.in_ok-first.ensures.entries in
    joined_levels g.M.Shape.BLOCK n (weight c.args.left.now.entries) (weight c.in_ok-first.first.rest.entries) (weight c.args.right.now.entries) c.args.steps.now c.take_first.new.steps c.join.new.steps (link_cost g.M.Shape.BLOCK) (64 * (c.args.right.now.height + 1) * (g.M.Shape.BLOCK + 2)) (omega (arith, size)) (c.join.ensures.levels n) c.in_ok-first.ensures.cost few
