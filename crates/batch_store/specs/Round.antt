-- A store beside its callers.
use Rattle.std.specs.Prelude.{◌≡◌, ℕ, ◌<◌, List, [], ◌++◌, length, slice_index_or, All, ◌⊎◌}
use Rattle.std.specs.List.{sum_by}
use Rattle.lanes.specs.Lane.{Receiving}
use Rattle.version_root.specs.Public.{Entry, History, IsPrefix, fresh_reader}
use Rattle.batch_store.specs.declared.submitted.Submitted.{Submitted}
use Rattle.batch_store.specs.Journal.{items_of, lanes_of, Below, AreReceived}
use Rattle.batch_store.specs.Keeping.{Keeping, SameStore, Publishes}
use Rattle.batch_store.specs.Calling.{Calling, SameCaller}
use Rattle.batch_store.specs.Hearing.{AreAt}

module _ {S O : Type 0} where
  -- these are the store's callers, in order
  pub record AreCallersOf (store : Keeping S O) (callers : List (Calling S O)) : Type 0 where
    pub at : AreAt (lanes_of store.lanes) callers
    pub root : All (λ (caller : Calling S O). caller.reader.root ≡ store.root) callers
    pub base : All (λ (caller : Calling S O). caller.reader.base ≡ store.base) callers

  -- the same callers, whatever they have sent and seen
  pub record AreSame (before after : List (Calling S O)) : Type 0 where
    pub count : length after ≡ length before
    pub each : (i : ℕ) (e : Calling S O) → i < length before → SameCaller (slice_index_or before i e) (slice_index_or after i e)

  -- no batch is lost, doubled or reordered: of each caller, the journal's entries, then the pending ones, then what its lane still holds are its sent list
  pub record Kept (store : Keeping S O) (callers : List (Calling S O)) : Type 0 where
    pub each : (i : ℕ) (d : Receiving (Submitted O)) (e : Calling S O) → i < length callers
        → (left : List (Submitted O))
        × ((slice_index_or store.lanes i d).received ++ left ≡ (slice_index_or callers i e).sent)
        × (items_of i store.journal ++ (items_of i store.pending ++ left) ≡ (slice_index_or callers i e).sent)

  -- the journal is the callers' sent lists, and nothing else
  pub record HasAllOf (journal : List (Entry O)) (callers : List (Calling S O)) : Type 0 where
    pub each : (i : ℕ) (e : Calling S O) → i < length callers → items_of i journal ≡ (slice_index_or callers i e).sent
    pub below : Below (length callers) journal

  -- the caller has sent what it had, and has seen what it had or the journal
  pub record IsTold (journal : List (Entry O)) (before after : Calling S O) : Type 0 where
    pub same : SameCaller before after
    pub sent : after.sent ≡ before.sent
    pub seen : (after.reader.seen ≡ before.reader.seen) ⊎ (after.reader.seen ≡ journal)

  pub record AreTold (journal : List (Entry O)) (before after : List (Calling S O)) : Type 0 where
    pub count : length after ≡ length before
    pub each : (i : ℕ) (e : Calling S O) → i < length before → IsTold journal (slice_index_or before i e) (slice_index_or after i e)

  -- a new store: all lists are empty
  pub record IsNewStore (base : S) (count : ℕ) (store : Keeping S O) (callers : List (Calling S O)) : Type 0 where
    pub base_is : store.base ≡ base
    pub journal : store.journal ≡ []
    pub pending : store.pending ≡ []
    pub count_is : length callers ≡ count
    pub callers_are : AreCallersOf store callers
    pub fresh : (i : ℕ) (e : Calling S O) → i < length callers → ((slice_index_or callers i e).sent ≡ []) × ((slice_index_or callers i e).reader ≡ fresh_reader store.root base i)

  -- what holds after the end of a round, whether it was refused or not
  pub record KeepsBatches (before after : Keeping S O) (callers told : List (Calling S O)) : Type 0 where
    pub same : SameStore before after
    pub callers_are : AreCallersOf after told
    pub told_are : AreTold after.journal callers told
    pub kept_before : Kept before callers
    pub kept : Kept after told
    pub received : AreReceived (after.journal ++ after.pending) after.lanes

  -- how many batches they have sent
  abbrev pub sent_by : List (Calling S O) → ℕ
  sent_by callers = sum_by (λ (caller : Calling S O). length caller.sent) callers

  -- what holds after a round that has ended
  pub record EndsRound (before after : Keeping S O) (callers told : List (Calling S O)) : Type 0 where
    pub publishes : Publishes before after
    pub begins : IsPrefix before.journal after.journal
    pub all : HasAllOf after.journal told
    pub count : length after.journal ≡ sent_by told
    pub had_seen : All (λ (caller : Calling S O). IsPrefix caller.reader.seen after.journal) callers
    pub seen : All (λ (caller : Calling S O). caller.reader.seen ≡ after.journal) told

  -- the version of a store's base and of all that its callers have sent
  pub record IsLast (before : Keeping S O) (callers : List (Calling S O)) (version : History S O) : Type 0 where
    pub base : version.base ≡ before.base
    pub taken : List (Entry O)
    pub journal : version.journal ≡ before.journal ++ (before.pending ++ taken)
    pub begins : IsPrefix before.journal version.journal
    pub all : HasAllOf version.journal callers
    pub count : length version.journal ≡ sent_by callers
    pub had_seen : All (λ (caller : Calling S O). IsPrefix caller.reader.seen version.journal) callers
