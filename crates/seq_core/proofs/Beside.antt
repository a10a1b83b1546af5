-- Two lists with an item between them, seen from a side.
use Rattle.std.proofs.Common.{◌≡◌, ◌+◌, List, ◌∷◌, length, sym, ap, ◌∙◌, arith, append_assoc}
use Rattle.map_model.specs.Balance.{weight}
use Rattle.map_model.proofs.Cuts.{length-around, regroup}
use Rattle.seq_core.specs.Sides.{beside}
use Rattle.seq_core.specs.declared.sides.Side.{Side}
use Rattle.seq_core.specs.declared.sides.Side.TheVariants.{Left, Right}

pub weight-beside : {E : Type 0} (side : Side) (es far : List E) (e : E) (near : List E) → es ≡ beside side far e near → weight es ≡ weight far + weight near
weight-beside Left es far e near is = omega (arith, ap length is, length-around near e far)
weight-beside Right es far e near is = omega (arith, ap length is, length-around far e near)

-- two items among three lists
pub regroup-beside : {E : Type 0} (side : Side) (far : List E) (e : E) (inner : List E) (f : E) (near : List E) → beside side far e (beside side inner f near) ≡ beside side (beside side far e inner) f near
regroup-beside Left far e inner f near = append_assoc near (f ∷ inner) (e ∷ far)
regroup-beside Right far e inner f near = regroup far e inner f near

-- three items among four lists
pub regroup-twice : {E : Type 0} (side : Side) (far : List E) (e : E) (a : List E) (f : E) (b : List E) (g : E) (near : List E) → beside side far e (beside side (beside side a f b) g near) ≡ beside side (beside side far e a) f (beside side b g near)
regroup-twice side far e a f b g near = ap (beside side far e) (sym (regroup-beside side a f b g near)) ∙ regroup-beside side far e a f (beside side b g near)
