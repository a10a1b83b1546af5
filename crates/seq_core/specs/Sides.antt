-- Two lists with an item between them, by the side on which one of them stands.
use Rattle.std.specs.Prelude.{List, ◌∷◌, ◌++◌}
use Rattle.seq_core.specs.declared.sides.Side.{Side}
use Rattle.seq_core.specs.declared.sides.Side.TheVariants.{Left, Right}

-- far, the item, and near on the given side
abbrev pub beside : {E : Type 0} → Side → List E → E → List E → List E
beside Left far item near = near ++ item ∷ far
beside Right far item near = far ++ item ∷ near
