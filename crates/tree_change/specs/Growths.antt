-- What a put did to the extent of a map.
use Rattle.std.specs.Prelude.{⊤}
use Rattle.tree_change.specs.declared.nodes.Growth.{Growth}
use Rattle.tree_change.specs.declared.nodes.Growth.TheVariants.{Same, Entry, Level}

-- there is an entry more
abbrev pub IsLarger : Growth → Type 0
IsLarger Same = ⊥
IsLarger Entry = ⊤
IsLarger Level = ⊤

-- the tree is as high as it was
abbrev pub IsAsHigh : Growth → Type 0
IsAsHigh Same = ⊥
IsAsHigh Entry = ⊤
IsAsHigh Level = ⊥
