-- What a caller does with its records.
use Rattle.std.specs.Prelude.{◌≡◌, ◌≤◌, ◌++◌, ℕ, List, length, map, All}
use Rattle.std.specs.List.Sorted.{IsNonDecreasingBy}
use Rattle.version_root.specs.Public.{IsPrefix}
use Rattle.batch_store.specs.Journal.{submitted_in}
use Rattle.batch_store.specs.Calling.{Calling, SameCaller}
use Rattle.serve_text.specs.declared.record.Record.{Record}
use Rattle.serve_text.specs.Records.{Answered, batches_of, reads_of}
use Rattle.serve_text.specs.Texts.{reply_line}

module _ {S O Q : Type 0} (step : S → O → S) (answer : S → Q → List ℕ) where
  -- the caller has submitted its records' batches, each with its record's number as its tag, and has answered its records' reads,
  -- each by a version that it has seen between its first and its last record, whose number never falls from a read to the next
  pub record HasRun (records : List (Record O Q)) (before after : Calling S O) (lines : List (List ℕ)) : Type 0 where
    pub same : SameCaller before after
    pub sent : after.sent ≡ before.sent ++ map submitted_in (batches_of records)
    pub seen : IsPrefix before.reader.seen after.reader.seen
    pub reads : List (Answered Q)
    pub asked : map (λ (a : Answered Q). a.asked) reads ≡ reads_of records
    pub least : All (λ (a : Answered Q). length before.reader.seen ≤ a.number) reads
    pub most : All (λ (a : Answered Q). a.number ≤ length after.reader.seen) reads
    pub rise : IsNonDecreasingBy (λ (a : Answered Q). a.number) reads
    pub lines_are : lines ≡ map (reply_line step answer before.reader.base after.reader.seen) reads
