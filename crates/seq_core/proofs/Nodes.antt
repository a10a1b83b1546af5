-- What a node over two sides has to keep.
use Rattle.std.proofs.Common.{◌≡◌, ℕ, ◌+◌, ◌^◌, ◌<◌, max, List, ◌∷◌, ◌++◌, length, ap, sym, ◌∙◌, arith}
use Rattle.map_model.specs.Balance.{FillsNode, IsBlockSize, IsBalanced, weight, HeightLaw}
use Rattle.map_model.proofs.Cuts.{length-around}
use Rattle.map_model.proofs.Heights.{node_is_long, node_law}
use Rattle.seq_core.specs.Contents.{Contents}
use Rattle.seq_core.specs.Sums.{sum_of}
use Rattle.seq_core.specs.Shape.{IsNode}

-- the sides of a node are shorter than the whole: the measure of recursions
module _ {E : Type 0} (whole l : List E) (e : E) (r : List E) (is : whole ≡ l ++ e ∷ r) where
  pub left_shorter : length l < length whole
  left_shorter = omega (arith, ap length is, length-around l e r)

  pub right_shorter : length r < length whole
  right_shorter = omega (arith, ap length is, length-around l e r)

module _ {E X : Type 0} (image : E → X) (unit : X) (combine : X → X → X) (block : ℕ) where
  pub is_node : (before : ℕ) (left : Contents E) (item : E) (right : Contents E) (sum : X) (size height : ℕ)
      → IsBlockSize block → before ≡ length left.items → sum ≡ sum_of image unit combine (left.items ++ item ∷ right.items)
      → size ≡ length left.items + length right.items + 1 → size < 2 ^ 60 → height ≡ max left.height right.height + 1
      → IsBalanced (weight left.items) (weight right.items) → FillsNode block (length left.items) (length right.items)
      → HeightLaw block left.height (length left.items) → HeightLaw block right.height (length right.items)
      → IsNode image unit combine block before left item right sum size height
  is_node before left item right sum size height block_size before_is sum_is size_is size_fits height_is balanced filled left_law right_law =
      record {
        block_size = block_size;
        before_is = before_is;
        sum_is = sum_is;
        size_is = size_is ∙ sym (length-around left.items item right.items);
        size_fits = size_fits;
        height_is = height_is;
        balanced = balanced;
        long = let long = node_is_long block (length left.items) (length right.items) filled in omega (arith, long);
        filled = filled;
        law = rw (height_is, size_is) (node_law block (length left.items) (length right.items) left.height right.height block_size.0 left_law right_law balanced filled);
      }
