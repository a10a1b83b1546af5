-- Where in a run of puts a key comes first and last, and counts of marks.
use Rattle.std.specs.Prelude.{◌≡◌, ℕ, ◌+◌, ◌==◌, Bool, false, cond, List, [], ◌∷◌, map, slice_index_or}
use Rattle.std.specs.Ordering.{nat_cmp}
use Rattle.map_model.specs.Entries.{IsIncreasing, lookup}
use Rattle.map_model.specs.Operations.{last_at}

-- the keys of entries with their places, which are counted from i
abbrev pub placed : ℕ → List (ℕ × ℕ) → List (ℕ × ℕ)
placed i [] = []
placed i (e ∷ entries) = (e.0, i) ∷ placed (i + 1) entries

-- the first entry has this key
abbrev pub begins_with : List (ℕ × ℕ) → ℕ → Bool
begins_with [] k = false
begins_with (e ∷ m) k = e.0 == k

-- of entries in a row that have one key the last
abbrev pub last_of_each : List (ℕ × ℕ) → List (ℕ × ℕ)
last_of_each [] = []
last_of_each (e ∷ m) = cond (begins_with m e.0) (last_of_each m) (e ∷ last_of_each m)

-- keys with the values that stand at their places
abbrev pub valued : List (ℕ × ℕ) → List (ℕ × ℕ) → List (ℕ × ℕ)
valued entries places = map (λ e. (e.0, (slice_index_or entries e.1 (0, 0)).1)) places

-- the keys of entries, by rising keys, with the places where they come first
pub record AreFirsts (entries firsts : List (ℕ × ℕ)) : Type 0 where
  pub rise : IsIncreasing nat_cmp firsts
  pub found : (q : ℕ) → lookup nat_cmp firsts q ≡ lookup nat_cmp (placed 0 entries) q

-- the last entry of each key, by rising keys
pub record AreLasts (entries lasts : List (ℕ × ℕ)) : Type 0 where
  pub rise : IsIncreasing nat_cmp lasts
  pub found : (q : ℕ) → lookup nat_cmp lasts q ≡ last_at nat_cmp entries q

-- the counts from n on, where each mark that is set counts one more
abbrev pub counted : ℕ → List Bool → List ℕ
counted n [] = []
counted n (mark ∷ marks) = cond mark (n + 1) n ∷ counted (cond mark (n + 1) n) marks
