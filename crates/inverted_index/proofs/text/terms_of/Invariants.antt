use Rattle.std.proofs.Common.{◌≡◌, map, take}
use Rattle.inverted_index.proofs.Texts.{terms_among}
use Rattle.inverted_index.proofs.text.terms_of.Given as goal

abbrev pub invariant-loop-part : goal.invariant-loop-part
invariant-loop-part l = l.terms.items ≡ terms_among (map (λ part. part.now) (take l.part-index l.part-items))
