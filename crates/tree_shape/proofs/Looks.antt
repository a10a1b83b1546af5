-- What a look at a tree's top finds.
use Rattle.std.proofs.Common.{ℕ, ◌∷◌, ◌++◌, List, refl}
use Rattle.std.specs.declared.cmp.Ordering.{Ordering}
use Rattle.map_model.specs.Contents.{Contents}
use Rattle.tree_shape.specs.Look.{LooksAtBlock, LooksAtNode}
use Rattle.tree_shape.specs.Shape.{IsBlock, IsNode}

module _ {K V X : Type 0} {order : K → K → Ordering} {base : K → V → X} {unit : X} {combine : X → X → X} {block : ℕ} where
  pub looks_at_block : (entries : List (K × V)) (fold : X) → IsBlock order base unit combine block entries fold → LooksAtBlock order block (record { entries = entries; height = 0 }) entries
  looks_at_block entries fold is = record {
    entries_are = refl;
    increasing = is.increasing;
    some = is.some;
    short = is.short;
    height_is = refl;
  }

  pub looks_at_node : (left : Contents K V) (key : K) (val : V) (right : Contents K V) (fold : X) (size height : ℕ) → IsNode order base unit combine block left key val right fold size height
      → LooksAtNode order block (record { entries = left.entries ++ (key, val) ∷ right.entries; height = height }) left key val right
  looks_at_node left key val right fold size height is = record {
    entries_are = refl;
    increasing = is.increasing;
    long = rw is.size_is at is.long;
    balanced = is.balanced;
    height_is = is.height_is;
  }
