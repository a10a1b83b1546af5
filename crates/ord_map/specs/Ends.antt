-- The first and the last entry of a map, and what is left without them.
use Rattle.std.specs.Prelude.{List, ◌-◌, drop, length, take, Option}
use Rattle.map_model.specs.Parts.{select}

-- the entry at the last place, if there is one
abbrev pub last : {K V : Type 0} → List (K × V) → Option (K × V)
last m = select m (length m - 1)

-- all entries but the first
abbrev pub without_first : {K V : Type 0} → List (K × V) → List (K × V)
without_first m = drop 1 m

-- all entries but the last
abbrev pub without_last : {K V : Type 0} → List (K × V) → List (K × V)
without_last m = take (length m - 1) m
