use Rattle.std.proofs.Common.{◌≡◌, sym, ◌∙◌, ap, subst}
use Rattle.map_model.specs.Fold.{fold_of}
use Rattle.map_model.proofs.Folds.{fold-fits, fold-around}
use Rattle.tree_shape.proofs.tree.Tree.fold_between.Goals as goal

pub returns-clause-value : goal.returns-clause-value
returns-clause-value g c =
    let law = g.met.M.Augment.Augment in
    let augment = g.M.Augment.Augment in
    let fold = fold_of augment.base_of augment.unit_of augment.combined in
    let left = c.args.left.now.entries in
    let base_fits = law.base_fits c.args.key.now c.args.val.now in
    let middle = c.in_ok-middle.ensures.value in
    let front : c.in_ok-front.front ≡ augment.combined (fold left) (augment.base_of c.args.key.now c.args.val.now) =
    c.in_ok-front.ensures.value (subst augment.Fits (sym middle) base_fits) ∙ ap (augment.combined (fold left)) middle in
    let fits = subst augment.Fits (sym front) (law.monoid.combine_fits _ _ (fold-fits law.monoid law.base_fits left) base_fits) in
    rw (fold-around law.monoid law.base_fits left c.args.key.now c.args.val.now c.args.right.now.entries) (rw front at (c.fold_after.ensures.value fits))
