-- What a look at a sequence's top tells.
use Rattle.std.specs.Prelude.{◌≡◌, ℕ, ◌+◌, ◌*◌, ◌<◌, ◌≤◌, max, List, [], ◌∷◌, ◌++◌, length}
use Rattle.map_model.specs.Balance.{IsBalanced, weight}
use Rattle.seq_core.specs.Contents.{Contents}
use Rattle.seq_core.specs.declared.look.Look.{Look}
use Rattle.seq_core.specs.declared.look.Look.TheVariants.{Empty, Block, Node}

-- the list is that of one block
pub record LooksAtBlock {E : Type 0} (block : ℕ) (c : Contents E) (items : List E) : Type 0 where
  pub items_are : c.items ≡ items
  pub some : 0 < length items
  pub short : length items ≤ 2 * block
  pub height_is : c.height ≡ 0

-- the list is that of the left side, the item and that of the right side, and the size of the left side is told
pub record LooksAtNode {E : Type 0} (block : ℕ) (c : Contents E) (before : ℕ) (left : Contents E) (item : E) (right : Contents E) : Type 0 where
  pub items_are : c.items ≡ left.items ++ item ∷ right.items
  pub before_is : before ≡ length left.items
  pub long : 2 * block < length c.items
  pub balanced : IsBalanced (weight left.items) (weight right.items)
  pub height_is : c.height ≡ max left.height right.height + 1

module _ {F S E X : Type 0} (block : ℕ) (c : Contents E) where
  abbrev pub IsLook : Look F S E X → Type 0
  IsLook Empty = c.items ≡ []
  IsLook (Block items) = LooksAtBlock block c items.now
  IsLook (Node before left item right) = LooksAtNode block c before left.now item.now right.now
