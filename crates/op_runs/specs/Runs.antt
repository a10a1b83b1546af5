-- What operations come to at each key, as a list, and maps that are changed by such a list.
use Rattle.std.specs.Prelude.{◌≡◌, ℕ, List, is_some, unwrap_or, fold}
use Rattle.std.specs.List.{list_any}
use Rattle.std.specs.Ordering.{nat_cmp}
use Rattle.map_model.specs.Entries.{IsIncreasing, lookup}
use Rattle.op_runs.specs.declared.op.Op.{Op}
use Rattle.op_runs.specs.declared.outcome.Outcome.{Outcome}
use Rattle.op_runs.specs.declared.outcome.Outcome.TheVariants.{Nothing}
use Rattle.op_runs.specs.Outcomes.{left_by}
use Rattle.op_runs.specs.Steps.{changes_at, changes_key, is_of, outcome_at, step}

-- what a list of keys with their outcomes has for a key: nothing, where the list hasn't the key
abbrev pub outcome_in : List (ℕ × Outcome) → ℕ → Outcome
outcome_in outcomes q = unwrap_or (lookup nat_cmp outcomes q) Nothing

-- a map that has at each key what the outcome of the key leaves of the value in m
pub record IsChangedBy (outcomes : List (ℕ × Outcome)) (m changed : List (ℕ × ℕ)) : Type 0 where
  pub rises : IsIncreasing nat_cmp changed
  pub value_at : (q : ℕ) → lookup nat_cmp changed q ≡ left_by (outcome_in outcomes q) (lookup nat_cmp m q)

-- keys with their outcomes, one for each key that changes have, with what the changes come to there
pub record IsComposed (changes outcomes : List (ℕ × Outcome)) : Type 0 where
  pub rises : IsIncreasing nat_cmp outcomes
  pub found_at : (q : ℕ) → outcome_in outcomes q ≡ changes_at changes q
  pub listed : (q : ℕ) → is_some (lookup nat_cmp outcomes q) ≡ list_any (changes_key q) changes

-- the keys of operations and no others, by rising keys, with what the operations come to there
pub record AreOutcomes (ops : List Op) (outcomes : List (ℕ × Outcome)) : Type 0 where
  pub rise : IsIncreasing nat_cmp outcomes
  pub found_at : (q : ℕ) → outcome_in outcomes q ≡ outcome_at ops q
  -- a key is listed exactly where one of the operations is of it
  pub listed : (q : ℕ) → is_some (lookup nat_cmp outcomes q) ≡ list_any (is_of q) ops
  -- so a map that they change is the map after the operations
  pub do_them : (m changed : List (ℕ × ℕ)) → IsIncreasing nat_cmp m → IsChangedBy outcomes m changed → changed ≡ fold step m ops
