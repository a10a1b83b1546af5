-- Two lists with an entry between them, by the side on which one of them stands.
use Rattle.std.specs.Prelude.{List, ◌∷◌, ◌++◌}
use Rattle.tree_join.specs.declared.sides.Side.{Side}
use Rattle.tree_join.specs.declared.sides.Side.TheVariants.{Left, Right}

-- far, the entry, and near on the given side
abbrev pub beside : {E : Type 0} → Side → List E → E → List E → List E
beside Left far e near = near ++ e ∷ far
beside Right far e near = far ++ e ∷ near
