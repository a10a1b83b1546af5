-- What is left of a walk from which the next entry has been taken.
use Rattle.std.specs.Prelude.{List, [], ◌∷◌, Option, None, Some}
use Rattle.std.proofs.Common.{Bor}

abbrev pub ahead : {K V : Type 0} → Option (Bor K × Bor V) → List (K × V) → List (K × V)
ahead None rest = []
ahead (Some entry) rest = (entry.0.now, entry.1.now) ∷ rest
