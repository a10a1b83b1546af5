-- A map from numbers to numbers, what operations make of it, and what they come to at each key.
use Rattle.std.specs.Prelude.{◌≡◌, ℕ, Bool, true, false, ◌||◌, cond, nat_lt, List, [], ◌∷◌, Option, None, Some, ⊤, fold}
use Rattle.std.specs.List.{filter}
use Rattle.std.specs.Option.{option_map_or}
use Rattle.std.specs.Ordering.{nat_cmp, is_eq}
use Rattle.map_model.specs.Entries.{drop_key, lookup, set}
use Rattle.op_runs.specs.declared.op.Op.{Op}
use Rattle.op_runs.specs.declared.op.Op.TheVariants.{Put, Del, Add, Wipe}
use Rattle.op_runs.specs.declared.outcome.Outcome.{Outcome}
use Rattle.op_runs.specs.declared.outcome.Outcome.TheVariants.{Nothing, Set, Gone, Added}
use Rattle.op_runs.specs.Outcomes.{followed_by, sat_sum}

-- the map with a value added to that of a key, or set where the map has no such key
abbrev pub added : List (ℕ × ℕ) → ℕ → ℕ → List (ℕ × ℕ)
added m key val = set nat_cmp m key (option_map_or (λ old. sat_sum old val) (lookup nat_cmp m key) val)

-- the entries whose keys are less than lo or greater than hi: all, where lo is greater than hi
abbrev pub wiped : List (ℕ × ℕ) → ℕ → ℕ → List (ℕ × ℕ)
wiped m lo hi = filter (λ e. nat_lt e.0 lo || nat_lt hi e.0) m

-- the map after an operation
abbrev pub step : List (ℕ × ℕ) → Op → List (ℕ × ℕ)
step m (Put key val) = set nat_cmp m key val
step m (Del key) = drop_key nat_cmp m key
step m (Add key val) = added m key val
step m (Wipe lo hi) = wiped m lo hi

-- whether it removes a range of keys
abbrev pub is_wipe : Op → Bool
is_wipe (Put key val) = false
is_wipe (Del key) = false
is_wipe (Add key val) = false
is_wipe (Wipe lo hi) = true

-- it is no wipe
abbrev pub IsSingle : Op → Type 0
IsSingle op = is_wipe op ≡ false

-- operations begin with a wipe, if there are any
abbrev pub BeginsWithWipe : List Op → Type 0
BeginsWithWipe [] = ⊤
BeginsWithWipe (op ∷ ops) = is_wipe op ≡ true

-- the key of an operation that is no wipe, and what it comes to there
abbrev pub change_of : Op → Option (ℕ × Outcome)
change_of (Put key val) = Some (key, Set val)
change_of (Del key) = Some (key, Gone)
change_of (Add key val) = Some (key, Added val)
change_of (Wipe lo hi) = None

-- whether an operation is of a key
abbrev pub is_of : ℕ → Op → Bool
is_of q (Put key val) = is_eq (nat_cmp key q)
is_of q (Del key) = is_eq (nat_cmp key q)
is_of q (Add key val) = is_eq (nat_cmp key q)
is_of q (Wipe lo hi) = false

-- whether a change is of a key
abbrev pub changes_key : ℕ → ℕ × Outcome → Bool
changes_key q e = is_eq (nat_cmp e.0 q)

-- what an operation comes to at a key
abbrev pub effect : Op → ℕ → Outcome
effect (Put key val) q = cond (is_eq (nat_cmp key q)) (Set val) Nothing
effect (Del key) q = cond (is_eq (nat_cmp key q)) Gone Nothing
effect (Add key val) q = cond (is_eq (nat_cmp key q)) (Added val) Nothing
effect (Wipe lo hi) q = cond (nat_lt q lo || nat_lt hi q) Nothing Gone

-- what operations in order come to at a key
abbrev pub outcome_at : List Op → ℕ → Outcome
outcome_at ops q = fold (λ first op. followed_by first (effect op q)) Nothing ops

-- what changes of keys, in order, come to at a key
abbrev pub changes_at : List (ℕ × Outcome) → ℕ → Outcome
changes_at changes q = fold (λ first e. followed_by first (cond (is_eq (nat_cmp e.0 q)) e.1 Nothing)) Nothing changes
