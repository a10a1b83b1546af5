-- Lists with the places of their elements.
use Rattle.std.specs.Prelude.{ℕ, ◌+◌, List, [], ◌∷◌}

-- keys with their places, counted from n
abbrev pub placed : {K : Type 0} → ℕ → List K → List (K × ℕ)
placed n [] = []
placed n (k ∷ ks) = (k, n) ∷ placed (n + 1) ks
