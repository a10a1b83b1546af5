-- What calls write into arrays of the caller.
use Rattle.std.specs.Prelude.{List, ◌++◌, length, drop}

-- an array that begins with the items of a list that is no longer; what stands behind them stays
abbrev pub overwritten : {X : Type 0} → List X → List X → List X
overwritten room items = items ++ drop (length items) room
