use Rattle.std.proofs.Common.{◌≡◌, length, ap, arith, rules}
use Rattle.std.specs.declared.cmp.Ordering.TheVariants.{Less, Equal, Greater}
use Rattle.map_model.specs.SetOperations.{intersect}
use Rattle.map_model.proofs.Lengths.{length-intersect_le}
use Rattle.ord_map.specs.Ahead.{ahead}
use Rattle.ord_map.proofs.CommonKeys.{ahead_next, counted_equal, counted_greater, counted_less, counting_ends}
use Rattle.ord_map.proofs.common.count_met.Goals as goal

pub overflow_add-count : goal.overflow_add-count
overflow_add-count g c =
    let so_far = c.loop-near.invariant.0 in
    let most = length-intersect_le g.A.Key.Ord.cmp (λ a _. a) c.args.a.now c.args.b.now in
    let len = c.len.ensures.value in
    let fits = c.len.ensures.fits in
    omega (arith, so_far, most, len, fits)

pub loop-near-preserved-in-Less : goal.loop-near-preserved-in-Less
loop-near-preserved-in-Less g c =
    let at = c.loop-near in
    let both = c.in-Some-Some in
    let less : g.A.Key.Ord.cmp both.key.now both.other.now ≡ Less = search rules in
    counted_less g.met.A.Key.Ord.total g.met.A.Key.Key.exact (λ a _. a) (length (intersect g.A.Key.Ord.cmp (λ a _. a) c.args.a.now c.args.b.now)) at.count (ahead at.near at.left) (ahead at.far at.right) at.invariant
    (both.key.now, both.field-0-1-0.now)
    (both.other.now, both.field-0-1-1.now)
    at.left
    at.right
    (ap (λ o. ahead o at.left) both.is-0)
    (ap (λ o. ahead o at.right) both.is-1)
    (ahead c.next-near-in-Less.result c.next-near-in-Less.new.self)
    (ahead_next at.left c.next-near-in-Less.result c.next-near-in-Less.new.self c.next-near-in-Less.ensures.steps)
    less

pub loop-near-preserved-in-Greater : goal.loop-near-preserved-in-Greater
loop-near-preserved-in-Greater g c =
    let at = c.loop-near in
    let both = c.in-Some-Some in
    let greater : g.A.Key.Ord.cmp both.key.now both.other.now ≡ Greater = search rules in
    counted_greater g.met.A.Key.Ord.total g.met.A.Key.Key.exact (λ a _. a) (length (intersect g.A.Key.Ord.cmp (λ a _. a) c.args.a.now c.args.b.now)) at.count (ahead at.near at.left) (ahead at.far at.right) at.invariant
    (both.key.now, both.field-0-1-0.now)
    (both.other.now, both.field-0-1-1.now)
    at.left
    at.right
    (ap (λ o. ahead o at.left) both.is-0)
    (ap (λ o. ahead o at.right) both.is-1)
    (ahead c.next-far-in-Greater.result c.next-far-in-Greater.new.self)
    (ahead_next at.right c.next-far-in-Greater.result c.next-far-in-Greater.new.self c.next-far-in-Greater.ensures.steps)
    greater

pub loop-near-preserved : goal.loop-near-preserved
loop-near-preserved g c =
    let at = c.loop-near in
    let both = c.in-Some-Some in
    let equal : g.A.Key.Ord.cmp both.key.now both.other.now ≡ Equal = search rules in
    counted_equal g.met.A.Key.Ord.total g.met.A.Key.Key.exact (λ a _. a) (length (intersect g.A.Key.Ord.cmp (λ a _. a) c.args.a.now c.args.b.now)) at.count (ahead at.near at.left) (ahead at.far at.right) at.invariant
    (both.key.now, both.field-0-1-0.now)
    (both.other.now, both.field-0-1-1.now)
    at.left
    at.right
    (ap (λ o. ahead o at.left) both.is-0)
    (ap (λ o. ahead o at.right) both.is-1)
    (ahead c.next-near-in-Equal.result c.next-near-in-Equal.new.self)
    (ahead c.next-far-in-Equal.result c.next-far-in-Equal.new.self)
    (ahead_next at.left c.next-near-in-Equal.result c.next-near-in-Equal.new.self c.next-near-in-Equal.ensures.steps)
    (ahead_next at.right c.next-far-in-Equal.result c.next-far-in-Equal.new.self c.next-far-in-Equal.ensures.steps)
    equal

pub returns-in_default : goal.returns-in_default
returns-in_default g c =
    let at = c.loop-near in
    counting_ends g.A.Key.Ord.cmp (λ a _. a) (length (intersect g.A.Key.Ord.cmp (λ a _. a) c.args.a.now c.args.b.now)) at.count (ahead at.near at.left) (ahead at.far at.right) at.invariant (ap (λ o. ahead o at.right) c.in_default.is-1)
