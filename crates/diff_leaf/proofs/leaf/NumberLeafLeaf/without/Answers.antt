use Rattle.std.proofs.Common.{◌+◌, ◌++◌, map, take, drop, ap, ◌∙◌, sym, subst}
use Rattle.diff_leaf.specs.Numbers.{key_entry, AreNumbers}
use Rattle.diff_leaf.proofs.Views.{without_same, numbers_without}
use Rattle.diff_leaf.proofs.leaf.NumberLeafLeaf.without.Goals as goal

pub of_gaps-requires : goal.of_gaps-requires
of_gaps-requires g c =
    let Fits = g.K.NumberKey.fits_number in
    subst (AreNumbers Fits) (sym c.in_ok-gaps.ensures) (numbers_without Fits c.args.at c.self.inside.gaps c.self.invariant)

pub returns : goal.returns
returns g c =
    let key_of = g.K.NumberKey.key_of in
    c.of_gaps.ensures ∙ ap (map (key_entry key_of)) c.in_ok-gaps.ensures ∙ without_same key_of _ c.args.at ∙ ap (λ es. take c.args.at es ++ drop (c.args.at + 1) es) c.self.view_is
