-- What is written of keys that were looked up together.
use Rattle.std.proofs.Common.{◌≡◌, ℕ, List, [], ◌∷◌, map, refl, ap}
use Rattle.std.specs.Ordering.{nat_cmp}
use Rattle.map_model.specs.Entries.{lookup}
use Rattle.map_handle.specs.Arrays.{one_if_some, presence_at, value_at, value_or_zero}

pub vals_found : (m : List (ℕ × ℕ)) (keys : List ℕ) → map value_or_zero (map (λ k. lookup nat_cmp m k) keys) ≡ map (value_at m) keys
vals_found m [] = refl
vals_found m (k ∷ keys) = ap (λ rest. value_at m k ∷ rest) (vals_found m keys)

pub presences_found : (m : List (ℕ × ℕ)) (keys : List ℕ) → map one_if_some (map (λ k. lookup nat_cmp m k) keys) ≡ map (presence_at m) keys
presences_found m [] = refl
presences_found m (k ∷ keys) = ap (λ rest. presence_at m k ∷ rest) (presences_found m keys)
