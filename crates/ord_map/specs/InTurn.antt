-- Entries put one after the other.
use Rattle.std.specs.Prelude.{List, [], ◌∷◌}
use Rattle.std.specs.List.{fold}
use Rattle.std.specs.declared.cmp.Ordering.{Ordering}
use Rattle.map_model.specs.SetOperations.{union}

-- the map after each of some entries in order: its key gets its value, or f of the value that is there and its value
abbrev pub put_in_turn : {K V : Type 0} → (K → K → Ordering) → (V → V → V) → List (K × V) → List (K × V) → List (K × V)
put_in_turn order f m entries = fold (λ n e. union order f n (e ∷ [])) m entries
