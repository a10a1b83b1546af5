-- Lanes beside their callers, and a journal beside what the callers have seen, as far as a loop has come.
use Rattle.std.specs.Prelude.{◌≡◌, ℕ, ◌<◌, List, [], ◌++◌, length, map, slice_index_or, All}
use Rattle.version_root.specs.Public.{Reading, Entry, IsPrefix}
use Rattle.lanes.specs.Lane.{LaneId, Receiving}
use Rattle.batch_store.specs.declared.submitted.Submitted.{Submitted}
use Rattle.batch_store.specs.Calling.{Calling}

module _ {S O : Type 0} where
  -- the callers at the other ends of the lanes, in order
  pub record AreAt (lanes : List LaneId) (callers : List (Calling S O)) : Type 0 where
    pub ends : map (λ (caller : Calling S O). caller.lane) callers ≡ lanes
    pub number : (i : ℕ) (e : Calling S O) → i < length callers → (slice_index_or callers i e).number ≡ i

  -- what each of the first k lanes gave is a beginning of what its caller sent
  pub record AreHeard (k : ℕ) (intakes : List (Receiving (Submitted O))) (callers : List (Calling S O)) : Type 0 where
    pub each : (i : ℕ) (d : Receiving (Submitted O)) (e : Calling S O) → i < k → i < length intakes
        → (left : List (Submitted O)) × ((slice_index_or intakes i d).received ++ left ≡ (slice_index_or callers i e).sent)

  -- the first k lanes gave all that their callers sent
  pub record HeardAll (k : ℕ) (intakes : List (Receiving (Submitted O))) (callers : List (Calling S O)) : Type 0 where
    pub each : (i : ℕ) (d : Receiving (Submitted O)) (e : Calling S O) → i < k → i < length intakes → (slice_index_or intakes i d).received ≡ (slice_index_or callers i e).sent

  -- what the first k callers have seen is a beginning of the journal
  pub record HaveSeen (k : ℕ) (journal : List (Entry O)) (callers : List (Calling S O)) : Type 0 where
    pub each : (i : ℕ) (e : Calling S O) → i < k → i < length callers → IsPrefix (slice_index_or callers i e).reader.seen journal

  -- lanes and callers as they are made: nothing was sent
  pub record AreConnected (readers : List (Reading S O)) (intakes : List (Receiving (Submitted O))) (callers : List (Calling S O)) : Type 0 where
    pub at : AreAt (map (λ (intake : Receiving (Submitted O)). intake.lane) intakes) callers
    pub readers_are : map (λ (caller : Calling S O). caller.reader) callers ≡ readers
    pub none_received : All (λ (intake : Receiving (Submitted O)). intake.received ≡ []) intakes
    pub none_sent : All (λ (caller : Calling S O). caller.sent ≡ []) callers
