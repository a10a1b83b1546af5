use Rattle.std.proofs.Common.{map, ap, ◌∙◌, sym, subst, arith}
use Rattle.diff_leaf.specs.Numbers.{key_entry, AreNumbers}
use Rattle.diff_leaf.proofs.Falling.{falling}
use Rattle.diff_leaf.proofs.Joined.{joined_is, joined_length, joined_rises, joined_numbers}
use Rattle.diff_leaf.proofs.leaf.NumberLeafLeaf.concat3.Goals as goal

pub concat-requires-clause-rises : goal.concat-requires-clause-rises
concat-requires-clause-rises g c =
    falling _ (joined_rises g.K.NumberKey.key_of c.self.inside.gaps c.right.inside.gaps c.number.result c.args.val _ _ c.args.key c.self.view_is c.right.view_is c.number.ensures.key g.K.Ord.cmp g.met.K.NumberKey.ordered c.requires.increasing)

pub concat-requires-clause-short : goal.concat-requires-clause-short
concat-requires-clause-short g c =
    omega (arith, joined_length g.K.NumberKey.key_of c.self.inside.gaps c.right.inside.gaps c.number.result c.args.val _ _ c.args.key c.self.view_is c.right.view_is c.number.ensures.key, c.requires.short)

pub of_gaps-requires : goal.of_gaps-requires
of_gaps-requires g c =
    let Fits = g.K.NumberKey.fits_number in
    subst (AreNumbers Fits) (sym c.in_ok-gaps.ensures) (joined_numbers g.K.NumberKey.key_of c.self.inside.gaps c.right.inside.gaps c.number.result c.args.val _ _ c.args.key c.self.view_is c.right.view_is c.number.ensures.key g.K.Ord.cmp g.met.K.NumberKey.ordered c.requires.increasing Fits c.self.invariant.1 c.number.ensures.fits c.right.invariant.1)

pub returns : goal.returns
returns g c =
    c.of_gaps.ensures ∙ ap (map (key_entry g.K.NumberKey.key_of)) c.in_ok-gaps.ensures
    ∙ joined_is g.K.NumberKey.key_of c.self.inside.gaps c.right.inside.gaps c.number.result c.args.val _ _ c.args.key c.self.view_is c.right.view_is c.number.ensures.key
