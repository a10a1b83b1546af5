use Rattle.std.proofs.Common.{map, take, ap, ◌∙◌, sym, subst}
use Rattle.diff_leaf.specs.Numbers.{key_entry, AreNumbers}
use Rattle.diff_leaf.proofs.Views.{front_same, numbers_front}
use Rattle.diff_leaf.proofs.leaf.NumberLeafLeaf.front.Goals as goal

pub of_gaps-requires : goal.of_gaps-requires
of_gaps-requires g c =
    let Fits = g.K.NumberKey.fits_number in
    subst (AreNumbers Fits) (sym c.in_ok-gaps.ensures) (numbers_front Fits c.args.at c.self.inside.gaps c.self.invariant)

pub returns : goal.returns
returns g c =
    let key_of = g.K.NumberKey.key_of in
    c.of_gaps.ensures ∙ ap (map (key_entry key_of)) c.in_ok-gaps.ensures ∙ front_same key_of _ c.args.at ∙ ap (take c.args.at) c.self.view_is
