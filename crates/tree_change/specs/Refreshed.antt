-- A node over given sides, with what it stores about them.
use Rattle.std.specs.Prelude.{◌≡◌, ℕ, ◌+◌, max, List, ◌∷◌, ◌++◌, length}
use Rattle.map_model.specs.Balance.{FillsNode, HeightLaw, IsBalanced, weight}
use Rattle.map_model.specs.Contents.{Contents}
use Rattle.map_model.specs.Fold.{fold_of}
use Rattle.aug_monoid.specs.Commuting.{IsCommutativeOver}
use Rattle.tree_shape.specs.declared.tree.Node.{Node}

-- the node has these sides and this entry, and their fold, size and height
pub record IsRefreshed {M K V X A L : Type 0} (base : K → V → X) (unit : X) (combine : X → X → X) (block : ℕ) (left : Contents K V) (key : K) (val : V) (right : Contents K V) (node : Node M K V X A L) : Type 0 where
  pub left_is : node.left ≡ left
  pub key_is : node.key ≡ key
  pub val_is : node.val ≡ val
  pub right_is : node.right ≡ right
  pub fold_is : node.fold ≡ fold_of base unit combine (left.entries ++ (key, val) ∷ right.entries)
  pub size_is : node.size ≡ length left.entries + length right.entries + 1
  pub height_is : node.height ≡ max left.height right.height + 1
  pub law : IsBalanced (weight left.entries) (weight right.entries) → FillsNode block (length left.entries) (length right.entries) → HeightLaw block node.height node.size

-- where values combine alike in either order, a fold and one more value combine to the fold of these entries
abbrev pub TakesIn : {K V X : Type 0} → (X → Type 0) → (K → V → X) → X → (X → X → X) → X → X → List (K × V) → Type 0
TakesIn Fits base unit combine fold new entries = IsCommutativeOver Fits combine → combine fold new ≡ fold_of base unit combine entries

-- and so a node's fold, to that of its sides and the entry between them
abbrev pub NodeTakesIn : {M K V X A L : Type 0} → (X → Type 0) → (K → V → X) → X → (X → X → X) → Node M K V X A L → X → Type 0
NodeTakesIn Fits base unit combine node new = TakesIn Fits base unit combine node.fold new (node.left.entries ++ (node.key, node.val) ∷ node.right.entries)
