use Rattle.std.proofs.Common.{◌≡◌, ◌+◌, ◌++◌, take, drop, ap, ◌∙◌, refl, arith}
use Rattle.std.proofs.Math.Seq.{take-add}
use Rattle.std.proofs.lemmas.List.{drop-drop}
use Rattle.map_model.specs.Fold.{fold_of}
use Rattle.map_model.proofs.Folds.{fold-append}
use Rattle.tree_shape.proofs.folding.fold_run.Goals as goal

pub loop-at-preserved : goal.loop-at-preserved
loop-at-preserved g c =
    let law = g.met.A.Augment in
    let augment = g.A.Augment in
    let entries = g.L.Leaf.entries c.args.leaf.now in
    let start = c.args.walk.now.index in
    let at = c.loop-at._at in
    let index = c.loop-at.invariant.2 in
    let front = take at (drop start entries) in
    let one = take 1 (drop (start + at) entries) in
    let whole : take (at + 1) (drop start entries) ≡ front ++ one =
    take-add at 1 (drop start entries) ∙ ap (λ x. front ++ take 1 x) (drop-drop at start entries) in
    let fold = fold_of augment.base_of augment.unit_of augment.combined in
    let joined : fold (front ++ one) ≡ augment.combined (fold front) (fold one) = fold-append law.monoid law.base_fits front one in
    let more : fold (take (at + 1) (drop start entries)) ≡ c.in_ok-fold-2.fold =
    rw (whole, c.in_ok-fold-2.ensures.value, c.loop-at.invariant.0, index) joined in
    (rw more refl, omega (arith, c.loop-at.invariant.1, c.in_ok-fold-2.ensures.cost), omega (arith, c.in_ok-fold-2.ensures.moved, index), c.in_ok-fold-2.ensures.place)

pub returns-clause-value : goal.returns-clause-value
returns-clause-value g c =
    let ended : c.loop-at._at ≡ c.args.count = omega (arith, c.loop-at-test.false) in
    rw ended at c.loop-at.invariant.0
