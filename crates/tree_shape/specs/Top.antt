-- What the top of a tree is seen as, and what holds of it.
use Rattle.std.specs.Prelude.{ℕ, List, [], ◌∷◌, ◌++◌}
use Rattle.std.specs.declared.cmp.Ordering.{Ordering}
use Rattle.map_model.specs.Contents.{Contents}
use Rattle.tree_shape.specs.Shape.{IsBlock, IsNode}
use Rattle.tree_shape.specs.declared.tree.Top.{Top}
use Rattle.tree_shape.specs.declared.tree.Top.TheVariants.{Empty, Block, Node}

module _ {M K V X A L : Type 0} (leaf_entries : L → List (K × V)) where
  -- the entries in order, and the stored height
  abbrev pub contents : Top M K V X A L → Contents K V
  contents Empty = record { entries = []; height = 0 }
  contents (Block b) = record { entries = leaf_entries b.value.leaf; height = 0 }
  contents (Node n) = record { entries = n.value.left.entries ++ (n.value.key, n.value.val) ∷ n.value.right.entries; height = n.value.height }

  -- the shape of a tree
  abbrev pub IsTop : (K → K → Ordering) → (K → V → X) → X → (X → X → X) → ℕ → Top M K V X A L → Type 0
  IsTop order base unit combine block Empty = Unit {0}
  IsTop order base unit combine block (Block b) = IsBlock order base unit combine block (leaf_entries b.value.leaf) b.value.fold
  IsTop order base unit combine block (Node n) = IsNode order base unit combine block n.value.left n.value.key n.value.val n.value.right n.value.fold n.value.size n.value.height
