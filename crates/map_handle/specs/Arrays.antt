-- Many keys at once.
use Rattle.std.specs.Prelude.{ℕ, List, Option, length, take, drop, map, min, ◌++◌}
use Rattle.std.specs.Option.{option_map_or}
use Rattle.std.specs.Ordering.{nat_cmp}
use Rattle.map_model.specs.Entries.{lookup}
use Rattle.map_model.specs.Operations.{build}
use Rattle.map_model.specs.SetOperations.{difference}

-- a value that may be there, or 0
abbrev pub value_or_zero : Option ℕ → ℕ
value_or_zero found = option_map_or (λ val. val) found 0

-- 1 where a value is there, else 0
abbrev pub one_if_some : Option ℕ → ℕ
one_if_some found = option_map_or (λ _. 1) found 0

-- the value at a key, or 0
abbrev pub value_at : List (ℕ × ℕ) → ℕ → ℕ
value_at m key = value_or_zero (lookup nat_cmp m key)

-- 1 where the map has the key, else 0
abbrev pub presence_at : List (ℕ × ℕ) → ℕ → ℕ
presence_at m key = one_if_some (lookup nat_cmp m key)

-- both for each of some keys
abbrev pub found_at : List (ℕ × ℕ) → List ℕ → List ℕ × List ℕ
found_at m keys = (map (value_at m) keys, map (presence_at m) keys)

-- the entries whose keys the map of these keys lacks
abbrev pub without : List (ℕ × ℕ) → List ℕ → List (ℕ × ℕ)
without m keys = difference nat_cmp m (build nat_cmp (map (λ key. (key, 0)) keys))

-- the first n of some items in place of the first n of an array
abbrev pub laid_over : ℕ → List ℕ → List ℕ → List ℕ
laid_over n found items = take n found ++ drop n items

-- how many entries there are and fit, and the arrays with these in place
abbrev pub filled : List (ℕ × ℕ) → List ℕ → List ℕ → ℕ × List ℕ × List ℕ
filled found keys vals = let n = min (length keys) (length found) in (n, laid_over n (map (λ e. e.0) found) keys, laid_over n (map (λ e. e.1) found) vals)
