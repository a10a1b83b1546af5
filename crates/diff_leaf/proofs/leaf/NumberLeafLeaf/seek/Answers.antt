use Rattle.std.proofs.Common.{arith, ap, sym, subst, ◌∙◌, length, Option}
use Rattle.std.specs.Prelude.{IsTrue, IsSome}
use Rattle.std.proofs.lemmas.List.{length-map}
use Rattle.diff_leaf.specs.Numbers.{key_entry}
use Rattle.diff_leaf.proofs.Orders.{place_is, value_is}
use Rattle.diff_leaf.proofs.leaf.NumberLeafLeaf.seek.Goals as goal

pub returns-clause-at : goal.returns-clause-at
returns-clause-at g c =
    c.seek_key.ensures.at ∙ sym (place_is g.K.Ord.cmp g.K.NumberKey.key_of g.met.K.NumberKey.ordered c.self.inside.gaps _ c.self.view_is c.number.result c.args.key.now c.number.ensures.key)

pub returns-clause-hit : goal.returns-clause-hit
returns-clause-hit g c =
    let hit = c.seek_key.result.hit in
    subst (λ (o : Option g.row.V.Denot). (IsTrue hit → IsSome o) × (IsSome o → IsTrue hit)) (sym (value_is g.K.Ord.cmp g.K.NumberKey.key_of g.met.K.NumberKey.ordered c.self.inside.gaps _ c.self.view_is c.number.result c.args.key.now c.number.ensures.key)) c.seek_key.ensures.hit

pub returns-clause-within : goal.returns-clause-within
returns-clause-within g c few =
    omega (arith, few, c.seek_key.ensures.within, length-map c.self.inside.gaps (key_entry g.K.NumberKey.key_of), ap length c.self.view_is)
