-- What a look at a tree's top tells.
use Rattle.std.specs.Prelude.{◌≡◌, ℕ, ◌+◌, ◌*◌, ◌<◌, ◌≤◌, max, List, [], ◌∷◌, ◌++◌, length}
use Rattle.std.specs.declared.cmp.Ordering.{Ordering}
use Rattle.map_model.specs.Entries.{IsIncreasing}
use Rattle.map_model.specs.Contents.{Contents}
use Rattle.map_model.specs.Balance.{IsBalanced, weight}
use Rattle.tree_shape.specs.declared.look.Look.{Look}
use Rattle.tree_shape.specs.declared.look.Look.TheVariants.{Empty, Block, Node}

-- the list is the leaf's, and is a block
pub record LooksAtBlock {K V : Type 0} (order : K → K → Ordering) (block : ℕ) (c : Contents K V) (entries : List (K × V)) : Type 0 where
  pub entries_are : c.entries ≡ entries
  pub increasing : IsIncreasing order entries
  pub some : 0 < length entries
  pub short : length entries ≤ 2 * block
  pub height_is : c.height ≡ 0

-- the list is that of the left side, the entry and that of the right side
pub record LooksAtNode {K V : Type 0} (order : K → K → Ordering) (block : ℕ) (c left : Contents K V) (key : K) (val : V) (right : Contents K V) : Type 0 where
  pub entries_are : c.entries ≡ left.entries ++ (key, val) ∷ right.entries
  pub increasing : IsIncreasing order (left.entries ++ (key, val) ∷ right.entries)
  pub long : 2 * block < length c.entries
  pub balanced : IsBalanced (weight left.entries) (weight right.entries)
  pub height_is : c.height ≡ max left.height right.height + 1

module _ {M K V X A L : Type 0} (leaf_entries : L → List (K × V)) (order : K → K → Ordering) (block : ℕ) (c : Contents K V) where
  abbrev pub IsLook : Look M K V X A L → Type 0
  IsLook Empty = c.entries ≡ []
  IsLook (Block leaf) = LooksAtBlock order block c (leaf_entries leaf.now)
  IsLook (Node left key val right) = LooksAtNode order block c left.now key.now val.now right.now
