-- What callers and lanes have of a journal.
use Rattle.std.specs.Prelude.{◌≡◌, ◌==◌, ℕ, ◌<◌, ◌≤◌, List, ◌++◌, length, map, filter, slice_index_or, All}
use Rattle.lanes.specs.Lane.{LaneId, Receiving}
use Rattle.version_root.specs.Public.{Entry}
use Rattle.batch_store.specs.declared.submitted.Submitted.{Submitted}

module _ {O : Type 0} where
  abbrev pub submitted_in : Entry O → Submitted O
  submitted_in entry = record { tag = entry.tag; batch = entry.batch }

  abbrev pub entry_of : ℕ → Submitted O → Entry O
  entry_of caller item = record { caller = caller; tag = item.tag; batch = item.batch }

  -- what the entries have of one caller, in order
  unfoldable pub items_of : ℕ → List (Entry O) → List (Submitted O)
  items_of caller entries = map submitted_in (filter (λ (entry : Entry O). entry.caller == caller) entries)

  -- every entry is of one of so many callers
  abbrev pub Below : ℕ → List (Entry O) → Type 0
  Below callers entries = All (λ (entry : Entry O). entry.caller < callers) entries

  abbrev pub lanes_of : List (Receiving (Submitted O)) → List LaneId
  lanes_of intakes = map (λ (intake : Receiving (Submitted O)). intake.lane) intakes

  -- the entries were taken from the lanes: each lane gave those of the caller of its place
  pub record IsTakenFrom (taken : List (Entry O)) (before after : List (Receiving (Submitted O))) : Type 0 where
    pub lanes : lanes_of after ≡ lanes_of before
    pub count : length after ≡ length before
    pub each : (i : ℕ) (d : Receiving (Submitted O)) → i < length before → (slice_index_or after i d).received ≡ (slice_index_or before i d).received ++ items_of i taken
    pub below : Below (length before) taken

  -- the entries are all that the lanes gave: each lane gave those of the caller of its place
  pub record AreReceived (entries : List (Entry O)) (intakes : List (Receiving (Submitted O))) : Type 0 where
    pub few : length intakes ≤ 64
    pub below : Below (length intakes) entries
    pub each : (i : ℕ) (d : Receiving (Submitted O)) → i < length intakes → items_of i entries ≡ (slice_index_or intakes i d).received
