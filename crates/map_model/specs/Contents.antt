-- What contracts see of a map that is kept as a tree.
use Rattle.std.specs.Prelude.{ℕ, List}

-- its entries in the order of their keys, and its height in inner nodes
pub record Contents (K V : Type 0) : Type 0 where
  pub entries : List (K × V)
  pub height : ℕ
