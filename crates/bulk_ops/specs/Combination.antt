-- Two maps that are combined key by key.
use Rattle.std.specs.Prelude.{◌≡◌, ℕ, ◌+◌, ◌≤◌, Bool, Option, Some, None, List, [], ◌∷◌, ◌++◌, length, is_none, if◌then◌else◌}
use Rattle.std.specs.List.{cons_option}
use Rattle.std.specs.Option.{option_map}
use Rattle.std.specs.declared.cmp.Ordering.{Ordering}
use Rattle.map_model.specs.Contents.{Contents}
use Rattle.map_model.specs.Entries.{IsIncreasing, lookup, below, above}
use Rattle.fork_join.specs.declared.work.Opened.{Opened}
use Rattle.fork_join.specs.Openings.{IsOpened}
use Rattle.bulk_passes.specs.Answers.{IsAnswer, IsPutTogether}

-- a key with its value, where there is one
abbrev pub entry_at : {K V : Type 0} → K → Option V → Option (K × V)
entry_at k o = option_map (λ v. (k, v)) o

-- `combined` splits at an entry of either map, with what `kept` makes of what the two maps have there; `first` and `second` say whether a map alone stays
pub record IsCombination {K V : Type 0} (order : K → K → Ordering) (combined : List (K × V) → List (K × V) → List (K × V)) (kept : Option V → Option V → Option V) (first second : Bool) : Type 0 where
  pub short : (a b : List (K × V)) → length (combined a b) ≤ length a + length b
  pub increases : (a b : List (K × V)) → IsIncreasing order a → IsIncreasing order b → IsIncreasing order (combined a b)
  pub first_alone : (a : List (K × V)) → IsIncreasing order a → combined a [] ≡ (if first then a else [])
  pub second_alone : (b : List (K × V)) → IsIncreasing order b → combined [] b ≡ (if second then b else [])
  pub split_first : (l : List (K × V)) (k : K) (v : V) (r b : List (K × V)) → IsIncreasing order (l ++ (k, v) ∷ r) → IsIncreasing order b → combined (l ++ (k, v) ∷ r) b ≡ combined l (below order b k) ++ cons_option (entry_at k (kept (Some v) (lookup order b k))) (combined r (above order b k))
  pub split_second : (a l : List (K × V)) (k : K) (w : V) (r : List (K × V)) → IsIncreasing order a → IsIncreasing order (l ++ (k, w) ∷ r) → combined a (l ++ (k, w) ∷ r) ≡ combined (below order a k) l ++ cons_option (entry_at k (kept (lookup order a k) (Some w))) (combined (above order a k) r)

-- the combination of two maps that are kept as trees
abbrev pub combined_entries : {K V : Type 0} → (List (K × V) → List (K × V) → List (K × V)) → Contents K V × Contents K V → List (K × V)
combined_entries combined pair = combined pair.0.entries pair.1.entries

-- how many entries two maps have
abbrev pub entry_count : {K V : Type 0} → Contents K V × Contents K V → ℕ
entry_count pair = length pair.0.entries + length pair.1.entries

-- the combination of two maps, or what it is put together of: the two maps are opened
abbrev pub IsPairOpened : {K V : Type 0} → (K → K → Ordering) → (List (K × V) → List (K × V) → List (K × V)) → Contents K V × Contents K V → Opened (Contents K V × Contents K V) (Option (K × V)) (Contents K V) → Type 0
IsPairOpened order combined pair = IsOpened (λ _. Unit {0}) (IsAnswer (combined_entries combined) pair) (IsPutTogether order (combined_entries combined) pair) entry_count (entry_count pair)

-- the first value, where there is no second
abbrev pub unless : {V : Type 0} → Option V → Option V → Option V
unless o p = (if is_none p then o else None)
