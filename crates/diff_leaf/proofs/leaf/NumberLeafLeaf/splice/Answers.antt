use Rattle.std.proofs.Common.{map, take, drop, ap, ◌∙◌, sym, subst, arith}
use Rattle.diff_leaf.specs.Numbers.{key_entry, AreNumbers}
use Rattle.diff_leaf.proofs.Falling.{falling}
use Rattle.diff_leaf.proofs.Joined.{joined_is, joined_length, joined_rises, joined_numbers}
use Rattle.diff_leaf.proofs.Views.{front_same, back_same, fits_front, fits_back}
use Rattle.diff_leaf.proofs.leaf.NumberLeafLeaf.splice.Goals as goal

pub splice-requires-clause-rises : goal.splice-requires-clause-rises
splice-requires-clause-rises g c =
    let key_of = g.K.NumberKey.key_of in
    let es = c.self.inside.gaps in
    let left = front_same key_of es c.args.at ∙ ap (take c.args.at) c.self.view_is in
    let right = back_same key_of es c.args.upto ∙ ap (drop c.args.upto) c.self.view_is in
    falling _ (joined_rises g.K.NumberKey.key_of (take c.args.at es) (drop c.args.upto es) c.number.result c.args.val _ _ c.args.key left right c.number.ensures.key g.K.Ord.cmp g.met.K.NumberKey.ordered c.requires.increasing)

pub splice-requires-clause-short : goal.splice-requires-clause-short
splice-requires-clause-short g c =
    let key_of = g.K.NumberKey.key_of in
    let es = c.self.inside.gaps in
    let left = front_same key_of es c.args.at ∙ ap (take c.args.at) c.self.view_is in
    let right = back_same key_of es c.args.upto ∙ ap (drop c.args.upto) c.self.view_is in
    omega (arith, joined_length g.K.NumberKey.key_of (take c.args.at es) (drop c.args.upto es) c.number.result c.args.val _ _ c.args.key left right c.number.ensures.key, c.requires.short)

pub of_gaps-requires : goal.of_gaps-requires
of_gaps-requires g c =
    let key_of = g.K.NumberKey.key_of in
    let Fits = g.K.NumberKey.fits_number in
    let es = c.self.inside.gaps in
    let left = front_same key_of es c.args.at ∙ ap (take c.args.at) c.self.view_is in
    let right = back_same key_of es c.args.upto ∙ ap (drop c.args.upto) c.self.view_is in
    subst (AreNumbers Fits) (sym c.in_ok-gaps.ensures) (joined_numbers g.K.NumberKey.key_of (take c.args.at es) (drop c.args.upto es) c.number.result c.args.val _ _ c.args.key left right c.number.ensures.key g.K.Ord.cmp g.met.K.NumberKey.ordered c.requires.increasing Fits (fits_front Fits c.args.at es c.self.invariant.1) c.number.ensures.fits (fits_back Fits c.args.upto es c.self.invariant.1))

pub returns : goal.returns
returns g c =
    let key_of = g.K.NumberKey.key_of in
    let es = c.self.inside.gaps in
    let left = front_same key_of es c.args.at ∙ ap (take c.args.at) c.self.view_is in
    let right = back_same key_of es c.args.upto ∙ ap (drop c.args.upto) c.self.view_is in
    c.of_gaps.ensures ∙ ap (map (key_entry key_of)) c.in_ok-gaps.ensures
    ∙ joined_is g.K.NumberKey.key_of (take c.args.at es) (drop c.args.upto es) c.number.result c.args.val _ _ c.args.key left right c.number.ensures.key
