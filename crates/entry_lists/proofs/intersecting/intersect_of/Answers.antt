use Rattle.std.proofs.Common.{◌≡◌, [], ◌∷◌, ◌++◌, sym, ap, length, arith}
use Rattle.std.specs.declared.cmp.Ordering.TheVariants.{Less, Equal, Greater}
use Rattle.map_model.specs.SetOperations.{intersect}
use Rattle.std.proofs.lemmas.List.{nil_from_length}
use Rattle.entry_lists.proofs.MergeSteps.{intersect_less, intersect_equal, intersect_greater, intersect_end, intersect_done}
use Rattle.entry_lists.proofs.intersecting.intersect_of.Goals as goal
use Rattle.entry_lists.proofs.intersecting.intersect_of.Goals.{in-Some+in_default-split_first, in_default}

pub loop-near-preserved-in-Less : goal.loop-near-preserved-in-Less
loop-near-preserved-in-Less g c =
    let near = c.in-Some.near.now in
    let far = c.in-Some-split_first.far.now in
    let left_is : c.loop-near.left.now ≡ near ∷ c.in-Some.others.now = c.in-Some.ensures.cases.0 in
    let right_is : c.loop-near.right.now ≡ far ∷ c.in-Some-split_first.rest.now = c.in-Some-split_first.ensures.cases.0 in
    let compared : g.K.Ord.cmp near.0 far.0 ≡ Less = sym c.in-Less.ensures.value in (
      intersect_less g.met.K.Ord.total g.met.K.Key.exact near far c.in-Some.others.now c.in-Some-split_first.rest.now c.loop-near.left.now c.loop-near.right.now c.loop-near.out.items c.loop-near.out.items (intersect g.K.Ord.cmp (g.R.Resolve.resolved c.args.how.now) c.args.a.now c.args.b.now) left_is right_is (g.R.Resolve.resolved c.args.how.now) c.loop-near.invariant.0 compared,
      omega (arith, c.order.ensures.one_step, c.loop-near.invariant.1, ap length left_is, ap length right_is),
    )

pub loop-near-preserved-in-Equal : goal.loop-near-preserved-in-Equal
loop-near-preserved-in-Equal g c =
    let near = c.in-Some.near.now in
    let far = c.in-Some-split_first.far.now in
    let left_is : c.loop-near.left.now ≡ near ∷ c.in-Some.others.now = c.in-Some.ensures.cases.0 in
    let right_is : c.loop-near.right.now ≡ far ∷ c.in-Some-split_first.rest.now = c.in-Some-split_first.ensures.cases.0 in
    let compared : g.K.Ord.cmp near.0 far.0 ≡ Equal = sym c.in-Equal.ensures.value in
    let pushed : c.push_resolved.new.into.items ≡ c.loop-near.out.items ++ (near.0, g.R.Resolve.resolved c.args.how.now near.1 far.1) ∷ [] = c.in_ok-push_resolved-in-Equal.ensures in (
      intersect_equal g.met.K.Ord.total g.met.K.Key.exact near far c.in-Some.others.now c.in-Some-split_first.rest.now c.loop-near.left.now c.loop-near.right.now c.loop-near.out.items c.push_resolved.new.into.items (intersect g.K.Ord.cmp (g.R.Resolve.resolved c.args.how.now) c.args.a.now c.args.b.now) left_is right_is (g.R.Resolve.resolved c.args.how.now) c.loop-near.invariant.0 compared pushed,
      omega (arith, c.order.ensures.one_step, c.loop-near.invariant.1, ap length left_is, ap length right_is),
    )

pub loop-near-preserved : goal.loop-near-preserved
loop-near-preserved g c =
    let near = c.in-Some.near.now in
    let far = c.in-Some-split_first.far.now in
    let left_is : c.loop-near.left.now ≡ near ∷ c.in-Some.others.now = c.in-Some.ensures.cases.0 in
    let right_is : c.loop-near.right.now ≡ far ∷ c.in-Some-split_first.rest.now = c.in-Some-split_first.ensures.cases.0 in
    let compared : g.K.Ord.cmp near.0 far.0 ≡ Greater = sym c.in-Greater.ensures.value in (
      intersect_greater g.met.K.Ord.total g.met.K.Key.exact near far c.in-Some.others.now c.in-Some-split_first.rest.now c.loop-near.left.now c.loop-near.right.now c.loop-near.out.items c.loop-near.out.items (intersect g.K.Ord.cmp (g.R.Resolve.resolved c.args.how.now) c.args.a.now c.args.b.now) left_is right_is (g.R.Resolve.resolved c.args.how.now) c.loop-near.invariant.0 compared,
      omega (arith, c.order.ensures.one_step, c.loop-near.invariant.1, ap length left_is, ap length right_is),
    )

pub returns-clause-value : goal.returns-clause-value
returns-clause-value g c =
    let how = g.R.Resolve.resolved c.args.how.now in
    let left = c.loop-near.left.now in
    let right = c.loop-near.right.now in
    let out = c.loop-near.out.items in
    let whole = intersect g.K.Ord.cmp how c.args.a.now c.args.b.now in
    elim c.match-split_first.branch [
      | in-Some+in_default-split_first w ↦
          let ended : right ≡ [] = nil_from_length right w.in_default-split_first.ensures.cases in
          intersect_end g.met.K.Ord.total g.met.K.Key.exact out whole how left right ended c.loop-near.invariant.0.0
      | in_default w ↦
          let ended : left ≡ [] = nil_from_length left w.in_default.ensures.cases in
          intersect_done g.met.K.Ord.total g.met.K.Key.exact out whole how left right ended c.loop-near.invariant.0.0
    ]

pub returns-clause-cost : goal.returns-clause-cost
returns-clause-cost g c = omega (arith, c.loop-near.invariant.1)
