-- What has changed from one list of entries to another.
use Rattle.std.specs.Prelude.{Bool, List, Option, None, Some, if◌then◌else◌}
use Rattle.std.specs.List.{filter_map}
use Rattle.std.specs.declared.cmp.Ordering.{Ordering}
use Rattle.map_model.specs.Entries.{lookup}
use Rattle.map_model.specs.SetOperations.{union}
use Rattle.entry_lists.specs.declared.changing.Change.{Change}
use Rattle.entry_lists.specs.declared.changing.Change.TheVariants as change

module _ {K V : Type 0} where
  -- the change at a key, from what stood there and what stands there now
  abbrev pub change_at : (V → V → Bool) → K → Option V → Option V → Option (Change K V)
  change_at eq k None None = None
  change_at eq k None (Some new) = Some (change.Added k new)
  change_at eq k (Some old) None = Some (change.Removed k old)
  change_at eq k (Some old) (Some new) = if eq old new then None else Some (change.Updated k old new)

  -- the changes at the keys of either list, in order
  abbrev pub changes : (K → K → Ordering) → (V → V → Bool) → List (K × V) → List (K × V) → List (Change K V)
  changes order eq old new = filter_map (λ e. change_at eq e.0 (lookup order old e.0) (lookup order new e.0)) (union order (λ v _. v) old new)
