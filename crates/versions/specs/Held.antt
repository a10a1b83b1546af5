-- What a version holds.
use Rattle.std.specs.Arc.{arc_value}
use Rattle.versions.specs.History.{History}
use Rattle.versions.specs.declared.version.Held.{Held}
use Rattle.versions.specs.declared.version.Held.TheVariants.{Own, Shared}

module _ {S Op : Type 0} where
  -- what its parts are seen as, wherever they stand
  abbrev pub parts_of : Held S Op → History S Op
  parts_of (Own parts) = parts
  parts_of (Shared parts) = arc_value parts
