-- How the items of a sequence are spread over its nodes and blocks.
use Rattle.std.specs.Prelude.{◌≡◌, ℕ, ◌+◌, ◌*◌, ◌^◌, ◌<◌, ◌≤◌, max, List, ◌∷◌, ◌++◌, length}
use Rattle.map_model.specs.Balance.{FillsNode, IsBalanced, IsBlockSize, HeightLaw, weight}
use Rattle.seq_core.specs.Contents.{Contents}
use Rattle.seq_core.specs.Sums.{sum_of}

module _ {E X : Type 0} (image : E → X) (unit : X) (combine : X → X → X) (block : ℕ) where
  -- a sequence of at most twice the block size is one block
  pub record IsBlock (items : List E) (sum : X) : Type 0 where
    pub block_size : IsBlockSize block
    pub some : 0 < length items
    pub short : length items ≤ 2 * block
    pub sum_is : sum ≡ sum_of image unit combine items

  -- the size of the left side, the sum, the size and the height are stored, the sides are balanced, and of few items each side is one block
  pub record IsNode (before : ℕ) (left : Contents E) (item : E) (right : Contents E) (sum : X) (size height : ℕ) : Type 0 where
    pub block_size : IsBlockSize block
    pub before_is : before ≡ length left.items
    pub sum_is : sum ≡ sum_of image unit combine (left.items ++ item ∷ right.items)
    pub size_is : size ≡ length (left.items ++ item ∷ right.items)
    pub size_fits : size < 2 ^ 60
    pub height_is : height ≡ max left.height right.height + 1
    pub balanced : IsBalanced (weight left.items) (weight right.items)
    pub long : 2 * block < size
    pub filled : FillsNode block (length left.items) (length right.items)
    pub law : HeightLaw block height size
