-- A node over given sides, with what it stores about them.
use Rattle.std.specs.Prelude.{◌≡◌, ℕ, ◌+◌, max, ◌∷◌, ◌++◌, length}
use Rattle.map_model.specs.Balance.{FillsNode, HeightLaw, IsBalanced, weight}
use Rattle.seq_core.specs.Contents.{Contents}
use Rattle.seq_core.specs.Sums.{sum_of}
use Rattle.seq_core.specs.declared.tree.Node.{Node}

-- the node has these sides and this item, and the number before the item, the sum, the size and the height of these
pub record IsRefreshed {F S E X : Type 0} (image : E → X) (unit : X) (combine : X → X → X) (block : ℕ) (left : Contents E) (item : E) (right : Contents E) (node : Node F S E X) : Type 0 where
  pub left_is : node.left ≡ left
  pub item_is : node.item ≡ item
  pub right_is : node.right ≡ right
  pub before_is : node.before ≡ length left.items
  pub sum_is : node.sum ≡ sum_of image unit combine (left.items ++ item ∷ right.items)
  pub size_is : node.size ≡ length left.items + length right.items + 1
  pub height_is : node.height ≡ max left.height right.height + 1
  pub law : IsBalanced (weight left.items) (weight right.items) → FillsNode block (length left.items) (length right.items) → HeightLaw block node.height node.size
