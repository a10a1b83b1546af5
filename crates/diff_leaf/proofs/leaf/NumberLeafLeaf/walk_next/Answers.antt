use Rattle.std.proofs.Common.{◌∙◌, Some, ap, map, sym, subst}
use Rattle.std.specs.List.{slice_get}
use Rattle.gap_code.specs.Code.{IsPlaceOf}
use Rattle.diff_leaf.specs.Numbers.{number_entry}
use Rattle.diff_leaf.specs.NumberLaws.{numbers_again}
use Rattle.diff_leaf.proofs.Views.{placed, fits_at}
use Rattle.diff_leaf.proofs.leaf.NumberLeafLeaf.walk_next.Goals as goal

pub entry_at-found-requires-clause-place : goal.entry_at-found-requires-clause-place
entry_at-found-requires-clause-place g c =
    let number_of = g.K.NumberKey.number_of in
    let seen = sym (numbers_again number_of g.K.NumberKey.key_of g.met.K.NumberKey.read_back c.self.inside.gaps) ∙ ap (map (number_entry number_of)) c.self.view_is in
    subst (λ es. IsPlaceOf g.V.ValueCode.bytes_of es c.args.walk.now) (sym seen) c.requires

pub of_number-requires : goal.of_number-requires
of_number-requires g c = fits_at g.K.NumberKey.fits_number c.self.inside.gaps _ _ _ c.self.invariant.1 c.entry_at-found.ensures.entry

pub returns-clause-value : goal.returns-clause-value
returns-clause-value g c =
    let key_of = g.K.NumberKey.key_of in
    let val = c.entry_at-found.result.val in
    let got = placed key_of c.self.inside.gaps c.args.walk.now.index c.entry_at-found.result.number val c.entry_at-found.ensures.entry in
    ap (λ k. Some (k, val)) c.of_number.ensures ∙ sym got ∙ ap (λ es. slice_get es c.args.walk.now.index) c.self.view_is

pub returns-clause-fits : goal.returns-clause-fits
returns-clause-fits g c =
    let number_of = g.K.NumberKey.number_of in
    let seen = sym (numbers_again number_of g.K.NumberKey.key_of g.met.K.NumberKey.read_back c.self.inside.gaps) ∙ ap (map (number_entry number_of)) c.self.view_is in
    subst (λ es. IsPlaceOf g.V.ValueCode.bytes_of es c.entry_at-found.result.next) seen c.entry_at-found.ensures.next
