-- Which orders of the batches, and which numbers of the reads, are those of a history that could have been.
use Rattle.std.specs.Prelude.{◌≡◌, ◌<◌, ◌≤◌, ℕ, List, length, map, take, All}
use Rattle.std.specs.List.Sorted.{IsPermutation, IsNonDecreasingBy}
use Rattle.versions.specs.declared.batch.Entry.{Entry}
use Rattle.serve_text.specs.declared.record.Record.{Record}
use Rattle.serve_text.specs.Records.{Answered, batches_of, reads_of, before, up_to, entries_of, answered_of}

module _ {O Q : Type 0} where
  -- the records are of so many callers, and their rounds do not fall
  pub record AreInRounds (callers : ℕ) (records : List (Record O Q)) : Type 0 where
    pub callers_are : All (λ (r : Record O Q). r.caller < callers) records
    pub rounds_rise : IsNonDecreasingBy (λ (r : Record O Q). r.round) records

  -- a read answers from a version that has at least the batches of the rounds before its own, and at most those up to and with its own
  pub record IsOfItsRound (records : List (Record O Q)) (read : Answered Q) : Type 0 where
    pub least : length (batches_of (before read.asked.round records)) ≤ read.number
    pub most : read.number ≤ length (batches_of (up_to read.asked.round records))

  -- `reads` are the reads of the records in record order, each with a number, and `journal` is the order of the batches
  pub record IsLawfulHistory (records : List (Record O Q)) (reads : List (Answered Q)) (journal : List (Entry O)) : Type 0 where
    -- each read is answered once
    pub asked : map (λ (a : Answered Q). a.asked) reads ≡ reads_of records
    -- each batch stands in the journal exactly once, and nothing else does
    pub once : IsPermutation (batches_of records) journal
    -- the batches of one caller stand in record order
    pub callers : (c : ℕ) → entries_of c journal ≡ entries_of c (batches_of records)
    -- the batches of the rounds before a round stand before all others
    pub rounds : (k : ℕ) → IsPermutation (batches_of (before k records)) (take (length (batches_of (before k records))) journal)
    -- each read is of its round
    pub bounds : All (IsOfItsRound records) reads
    -- along one caller's reads the number never falls
    pub never_falls : (c : ℕ) → IsNonDecreasingBy (λ (a : Answered Q). a.number) (answered_of c reads)
