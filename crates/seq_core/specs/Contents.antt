-- What contracts see of a sequence.
use Rattle.std.specs.Prelude.{ℕ, List}

-- its items in order, and its height in inner nodes
pub record Contents (E : Type 0) : Type 0 where
  pub items : List E
  pub height : ℕ
