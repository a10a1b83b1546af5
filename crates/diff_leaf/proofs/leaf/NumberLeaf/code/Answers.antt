use Rattle.std.proofs.Common.{sym, ap, ◌∙◌, map}
use Rattle.gap_code.specs.Code.{code}
use Rattle.diff_leaf.specs.Numbers.{number_entry}
use Rattle.diff_leaf.specs.NumberLaws.{numbers_again}
use Rattle.diff_leaf.proofs.leaf.NumberLeaf.code.Goals as goal

pub returns : goal.returns
returns g c =
    let number_of = g.K.NumberKey.number_of in
    let seen = sym (numbers_again number_of g.K.NumberKey.key_of g.met.K.NumberKey.read_back c.self.inside.gaps) ∙ ap (map (number_entry number_of)) c.self.view_is in
    c.code.ensures ∙ ap (code g.V.ValueCode.bytes_of) seen
