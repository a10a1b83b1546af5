-- A store and its callers after rounds of records.
use Rattle.std.specs.Prelude.{◌≡◌, ◌≤◌, ◌<◌, ◌++◌, ℕ, List, [], ◌∷◌, length, map, slice_index_or, All}
use Rattle.std.specs.List.Sorted.{IsNonDecreasingBy}
use Rattle.version_root.specs.Public.{IsPrefix}
use Rattle.batch_store.specs.Journal.{submitted_in}
use Rattle.batch_store.specs.Keeping.{Keeping, SameStore}
use Rattle.batch_store.specs.Calling.{Calling}
use Rattle.batch_store.specs.Round.{AreCallersOf, AreSame, HasAllOf, sent_by}
use Rattle.serve_text.specs.declared.record.Record.{Record}
use Rattle.serve_text.specs.Records.{Answered, batches_of, reads_of, records_of, answered_of}
use Rattle.serve_text.specs.Histories.{IsLawfulHistory}
use Rattle.serve_text.specs.Texts.{replies_text}
use Rattle.serve_callers.specs.Running.{HasRun}

module _ {S O : Type 0} where
  -- between two rounds nothing is pending, the journal is all that the callers have sent, and each has seen it
  pub record IsBetweenRounds (store : Keeping S O) (callers : List (Calling S O)) : Type 0 where
    pub callers_are : AreCallersOf store callers
    pub pending : store.pending ≡ []
    pub all : HasAllOf store.journal callers
    pub count : length store.journal ≡ sent_by callers
    pub seen : All (λ (caller : Calling S O). caller.reader.seen ≡ store.journal) callers

  -- the one store of the list is the same store, after some turns
  abbrev pub Follows : Keeping S O → List (Keeping S O) → Type 0
  Follows store stores = (later : Keeping S O) × (stores ≡ later ∷ []) × SameStore store later × IsPrefix store.journal later.journal

module _ {S O Q : Type 0} (step : S → O → S) (answer : S → Q → List ℕ) where
  -- each caller has run its own of the records, and left the lines of its reads
  pub record HaveRun (records : List (Record O Q)) (callers : List (Calling S O)) (ran : List (Calling S O × List (List ℕ))) : Type 0 where
    pub count : length ran ≡ length callers
    pub each : (i : ℕ) (e : Calling S O) (d : Calling S O × List (List ℕ)) → i < length callers
        → HasRun step answer (records_of (slice_index_or callers i e).number records) (slice_index_or callers i e) (slice_index_or ran i d).0 (slice_index_or ran i d).1

  -- one round was played: each caller has submitted its own batches, and each read is answered by a version that begins with
  -- the journal before the round and is a beginning of the journal after it
  pub record PlaysRound (records : List (Record O Q)) (before after : Keeping S O) (callers told : List (Calling S O)) (text longer : List ℕ) : Type 0 where
    pub same : SameStore before after
    pub same_callers : AreSame callers told
    pub between : IsBetweenRounds after told
    pub begins : IsPrefix before.journal after.journal
    pub sent : (i : ℕ) (e : Calling S O) → i < length told
        → (slice_index_or told i e).sent ≡ (slice_index_or callers i e).sent ++ map submitted_in (batches_of (records_of i records))
    pub reads : List (Answered Q)
    pub asked : map (λ (a : Answered Q). a.asked) reads ≡ reads_of records
    pub least : All (λ (a : Answered Q). length before.journal ≤ a.number) reads
    pub most : All (λ (a : Answered Q). a.number ≤ length after.journal) reads
    pub rise : (c : ℕ) → IsNonDecreasingBy (λ (a : Answered Q). a.number) (answered_of c reads)
    pub text_is : longer ≡ text ++ replies_text step answer before.base after.journal reads

  -- a new store and its callers have served the records: each caller has submitted its own batches, each with its record's number as
  -- its tag, and has seen the journal, and the text is the reads' lines of a lawful history of this journal
  pub record HasServed (records : List (Record O Q)) (before after : Keeping S O) (callers told : List (Calling S O)) (text : List ℕ) : Type 0 where
    pub same : SameStore before after
    pub same_callers : AreSame callers told
    pub between : IsBetweenRounds after told
    pub sent : (i : ℕ) (e : Calling S O) → i < length told → (slice_index_or told i e).sent ≡ map submitted_in (batches_of (records_of i records))
    pub reads : List (Answered Q)
    pub lawful : IsLawfulHistory records reads after.journal
    pub text_is : text ≡ replies_text step answer before.base after.journal reads
