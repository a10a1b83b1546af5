-- Outcomes of keys for a map, done by halves.
use Rattle.std.specs.Prelude.{ℕ, Option, None, List, ◌++◌, length}
use Rattle.std.specs.Borrow.{Bor}
use Rattle.std.specs.List.{cons_option, filter_map}
use Rattle.std.specs.Option.{option_map}
use Rattle.std.specs.Ordering.{nat_cmp}
use Rattle.map_model.specs.Contents.{Contents}
use Rattle.map_model.specs.Entries.{IsIncreasing}
use Rattle.op_runs.specs.declared.outcome.Outcome.{Outcome}
use Rattle.op_runs.specs.Outcomes.{left_by}
use Rattle.op_runs.specs.Runs.{IsChangedBy}

-- of two maps with outcomes for each, what is changed makes, with an entry between, what is changed of a whole
pub record IsPutTogether (outcomes : List (ℕ × Outcome)) (m : List (ℕ × ℕ)) (low_outcomes : List (ℕ × Outcome)) (low : List (ℕ × ℕ)) (middle : Option (ℕ × ℕ)) (high_outcomes : List (ℕ × Outcome)) (high : List (ℕ × ℕ)) : Type 0 where
  pub joined : (low_changed high_changed : List (ℕ × ℕ)) → IsChangedBy low_outcomes low low_changed → IsChangedBy high_outcomes high high_changed
      → IsChangedBy outcomes m (low_changed ++ cons_option middle high_changed)

-- ---- a map and the outcomes for it, as the program has them

abbrev pub Part : Type 0
Part = Contents ℕ ℕ × Bor (List (ℕ × Outcome))

abbrev pub KeysRise : Part → Type 0
KeysRise part = IsIncreasing nat_cmp part.1.now

abbrev pub key_count : Part → ℕ
key_count part = length part.1.now

-- the map after the outcomes
abbrev pub IsDone : Part → Contents ℕ ℕ → Type 0
IsDone part changed = IsChangedBy part.1.now part.0.entries changed.entries

-- two parts and an entry between them, of which the whole is made
abbrev pub AreSides : Part → Part → Option (ℕ × ℕ) → Part → Type 0
AreSides part low middle high = IsPutTogether part.1.now part.0.entries low.1.now low.0.entries middle high.1.now high.0.entries

-- ---- keys without entries

-- what outcomes leave where there are no entries
abbrev pub new_entries : List (ℕ × Outcome) → List (ℕ × ℕ)
new_entries outcomes = filter_map (λ o. option_map (λ val. (o.0, val)) (left_by o.1 None)) outcomes
