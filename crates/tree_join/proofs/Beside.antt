-- Two lists with an entry between them, seen from a side.
use Rattle.std.proofs.Common.{◌≡◌, ◌+◌, List, ◌∷◌, length, sym, ap, ◌∙◌, arith, append_assoc}
use Rattle.std.specs.declared.cmp.Ordering.{Ordering}
use Rattle.map_model.specs.Balance.{weight}
use Rattle.map_model.specs.Entries.{IsIncreasing}
use Rattle.map_model.proofs.Cuts.{length-around, regroup}
use Rattle.map_model.proofs.Keys.{IsIncreasing-front, around}
use Rattle.tree_join.specs.Sides.{beside}
use Rattle.tree_join.specs.declared.sides.Side.{Side}
use Rattle.tree_join.specs.declared.sides.Side.TheVariants.{Left, Right}

pub weight-beside : {E : Type 0} (side : Side) (es far : List E) (e : E) (near : List E) → es ≡ beside side far e near → weight es ≡ weight far + weight near
weight-beside Left es far e near is = omega (arith, ap length is, length-around near e far)
weight-beside Right es far e near is = omega (arith, ap length is, length-around far e near)

-- two entries among three lists
pub regroup-beside : {E : Type 0} (side : Side) (far : List E) (e : E) (inner : List E) (f : E) (near : List E) → beside side far e (beside side inner f near) ≡ beside side (beside side far e inner) f near
regroup-beside Left far e inner f near = append_assoc near (f ∷ inner) (e ∷ far)
regroup-beside Right far e inner f near = regroup far e inner f near

-- three entries among four lists
pub regroup-twice : {E : Type 0} (side : Side) (far : List E) (e : E) (a : List E) (f : E) (b : List E) (g : E) (near : List E) → beside side far e (beside side (beside side a f b) g near) ≡ beside side (beside side far e a) f (beside side b g near)
regroup-twice side far e a f b g near = ap (beside side far e) (sym (regroup-beside side a f b g near)) ∙ regroup-beside side far e a f (beside side b g near)

module _ {K V : Type 0} (order : K → K → Ordering) where
  pub increasing-far : (side : Side) (far : List (K × V)) (e : K × V) (near : List (K × V)) → IsIncreasing order (beside side far e near) → IsIncreasing order far
  increasing-far Left far e near whole = (around order near e.0 e.1 far whole).right
  increasing-far Right far e near whole = IsIncreasing-front order far (e ∷ near) whole

  pub increasing-near : (side : Side) (far : List (K × V)) (e : K × V) (near : List (K × V)) → IsIncreasing order (beside side far e near) → IsIncreasing order near
  increasing-near Left far e near whole = IsIncreasing-front order near (e ∷ far) whole
  increasing-near Right far e near whole = (around order far e.0 e.1 near whole).right
