-- Where a change in place goes from a node on.
use Rattle.std.specs.Prelude.{◌≡◌, ℕ, ⊤, length}
use Rattle.std.specs.declared.cmp.Ordering.{Ordering}
use Rattle.std.specs.declared.cmp.Ordering.TheVariants.{Less, Equal, Greater}
use Rattle.map_model.specs.Contents.{Contents}
use Rattle.tree_change.specs.Room.{HasRoom, CanSpare}
use Rattle.tree_change.specs.declared.nodes.Way.{Way}
use Rattle.tree_change.specs.declared.nodes.Way.TheVariants.{Left, Here, Right, Copy}

module _ {K V : Type 0} (order : K → K → Ordering) (block : ℕ) (q : K) (left : Contents K V) (key : K) (right : Contents K V) where
  -- down to the side of the key where that side has room, to the node's own entry, or to a copy
  abbrev pub IsWayOfPut : Way → Type 0
  IsWayOfPut Left = (order q key ≡ Less) × HasRoom block (length left.entries) (length right.entries)
  IsWayOfPut Here = order q key ≡ Equal
  IsWayOfPut Right = (order q key ≡ Greater) × HasRoom block (length right.entries) (length left.entries)
  IsWayOfPut Copy = ⊤

  -- down to the side of the key where that side can spare an entry, or to a copy
  abbrev pub IsWayOfDel : Way → Type 0
  IsWayOfDel Left = (order q key ≡ Less) × CanSpare block (length left.entries) (length right.entries)
  IsWayOfDel Here = order q key ≡ Equal
  IsWayOfDel Right = (order q key ≡ Greater) × CanSpare block (length right.entries) (length left.entries)
  IsWayOfDel Copy = ⊤
