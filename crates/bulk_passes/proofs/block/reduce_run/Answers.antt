use Rattle.std.proofs.Common.{◌≡◌, ◌+◌, ◌++◌, take, drop, ap, ◌∙◌, refl, arith}
use Rattle.std.proofs.Math.Seq.{take-add}
use Rattle.std.proofs.lemmas.List.{drop-drop}
use Rattle.map_model.specs.Fold.{reduce}
use Rattle.map_model.proofs.Folds.{fold-append}
use Rattle.bulk_passes.proofs.block.reduce_run.Goals as goal

pub loop-at-preserved : goal.loop-at-preserved
loop-at-preserved g c =
    let laws = g.met.W.Reduce in
    let how = c.args.how.now in
    let entries = g.L.Leaf.entries c.args.leaf.now in
    let start = c.args.walk.now.index in
    let at = c.loop-at._at in
    let index = c.loop-at.invariant.2 in
    let front = take at (drop start entries) in
    let one = take 1 (drop (start + at) entries) in
    let whole : take (at + 1) (drop start entries) ≡ front ++ one =
    take-add at 1 (drop start entries) ∙ ap (λ x. front ++ take 1 x) (drop-drop at start entries) in
    let reduced = reduce (g.W.Reduce.image_of how) (g.W.Reduce.unit_of how) (g.W.Reduce.combined how) in
    let joined : reduced (front ++ one) ≡ g.W.Reduce.combined how (reduced front) (reduced one) = fold-append (laws.monoid how) (laws.image_fits how) front one in
    let more : reduced (take (at + 1) (drop start entries)) ≡ g.W.Reduce.combined how c.loop-at.out c.in_ok-image.image =
    rw (whole, c.loop-at.invariant.0, rw index at c.in_ok-image.ensures.value) joined in
    (rw (more, c.in_ok-out-2.ensures.value) refl, omega (arith, c.loop-at.invariant.1, c.in_ok-out-2.ensures.one_step), omega (arith, c.in_ok-image.ensures.moved, index), c.in_ok-image.ensures.place)

pub returns-clause-value : goal.returns-clause-value
returns-clause-value g c =
    let ended : c.loop-at._at ≡ c.args.count = omega (arith, c.loop-at-test.false) in
    rw ended at c.loop-at.invariant.0
