-- What a map consisted of that was taken apart.
use Rattle.std.specs.Prelude.{◌≡◌, List, ◌∷◌, ◌++◌}
use Rattle.map_model.specs.Contents.{Contents}
use Rattle.tree_shape.specs.declared.tree.Node.{Node}
use Rattle.bulk_changes.specs.declared.taking.Taken.{Taken}
use Rattle.bulk_changes.specs.declared.taking.Taken.TheVariants.{Entries, Node as Sides}

module _ {M K V X A L : Type 0} where
  -- a list of entries, in one piece or around an entry
  abbrev pub AreTaken : List (K × V) → Taken M K V X A L → Type 0
  AreTaken list (Entries v) = v.items ≡ list
  AreTaken list (Sides left key val right) = left.entries ++ (key, val) ∷ right.entries ≡ list

  -- the entries of a map
  abbrev pub IsTaken : Contents K V → Taken M K V X A L → Type 0
  IsTaken c = AreTaken c.entries

  -- the entries of a node
  abbrev pub IsTakenFrom : Node M K V X A L → Taken M K V X A L → Type 0
  IsTakenFrom node = AreTaken (node.left.entries ++ (node.key, node.val) ∷ node.right.entries)
