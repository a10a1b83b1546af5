-- What the top of a sequence is seen as, and what holds of it.
use Rattle.std.specs.Prelude.{ℕ, [], ◌∷◌, ◌++◌}
use Rattle.map_model.specs.Balance.{IsBlockSize}
use Rattle.seq_core.specs.Contents.{Contents}
use Rattle.seq_core.specs.Shape.{IsBlock, IsNode}
use Rattle.seq_core.specs.declared.tree.Top.{Top}
use Rattle.seq_core.specs.declared.tree.Top.TheVariants.{Empty, Block, Node}

module _ {F S E X : Type 0} where
  -- the items in order, and the stored height
  abbrev pub contents : Top F S E X → Contents E
  contents (Empty _) = record { items = []; height = 0 }
  contents (Block b) = record { items = b.value.items.items; height = 0 }
  contents (Node n) = record { items = n.value.left.items ++ n.value.item ∷ n.value.right.items; height = n.value.height }

  -- the shape of a sequence
  abbrev pub IsTop : (E → X) → X → (X → X → X) → ℕ → Top F S E X → Type 0
  IsTop image unit combine block (Empty _) = IsBlockSize block
  IsTop image unit combine block (Block b) = IsBlock image unit combine block b.value.items.items b.value.sum
  IsTop image unit combine block (Node n) = IsNode image unit combine block n.value.before n.value.left n.value.item n.value.right n.value.sum n.value.size n.value.height
