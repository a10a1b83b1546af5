use Rattle.std.proofs.Common.{◌∙◌, ap, map, sym, subst}
use Rattle.gap_code.specs.Code.{IsPlaceOf}
use Rattle.diff_leaf.specs.Numbers.{number_entry}
use Rattle.diff_leaf.specs.NumberLaws.{numbers_again}
use Rattle.diff_leaf.proofs.leaf.NumberLeafLeaf.walk.Goals as goal

pub returns-clause-fits : goal.returns-clause-fits
returns-clause-fits g c =
    let number_of = g.K.NumberKey.number_of in
    let seen = sym (numbers_again number_of g.K.NumberKey.key_of g.met.K.NumberKey.read_back c.self.inside.gaps) ∙ ap (map (number_entry number_of)) c.self.view_is in
    subst (λ es. IsPlaceOf g.V.ValueCode.bytes_of es c.first_place.result) seen c.first_place.ensures.place
