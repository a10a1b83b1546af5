-- What the records of a served input ask for.
use Rattle.std.specs.Prelude.{◌==◌, ℕ, List, [], ◌∷◌, filter, nat_lt, nat_le}
use Rattle.std.specs.List.{flat_map}
use Rattle.versions.specs.declared.batch.Entry.{Entry}
use Rattle.serve_text.specs.declared.record.Act.{Act}
use Rattle.serve_text.specs.declared.record.Act.TheVariants.{Submit, Read}
use Rattle.serve_text.specs.declared.record.Record.{Record}

-- a read: the number of its record, its caller, its round, and what it asks
pub record Asked (Q : Type 0) : Type 0 where
  pub place : ℕ
  pub caller : ℕ
  pub round : ℕ
  pub query : Q

-- a read, with the number of the version that answers it
pub record Answered (Q : Type 0) : Type 0 where
  pub asked : Asked Q
  pub number : ℕ

module _ {O Q : Type 0} where
  abbrev pub batch_by : ℕ → ℕ → Act O Q → List (Entry O)
  batch_by caller place (Submit batch) = record { caller = caller; tag = place; batch = batch } ∷ []
  batch_by caller place (Read query) = []

  -- the batches that the records submit, in order: each with its caller, and with the number of its record as its tag
  unfoldable pub batches_of : List (Record O Q) → List (Entry O)
  batches_of records = flat_map (λ (r : Record O Q). batch_by r.caller r.place r.act) records

  abbrev pub read_by : ℕ → ℕ → ℕ → Act O Q → List (Asked Q)
  read_by place caller round (Submit batch) = []
  read_by place caller round (Read query) = record { place = place; caller = caller; round = round; query = query } ∷ []

  -- the reads of the records, in order
  unfoldable pub reads_of : List (Record O Q) → List (Asked Q)
  reads_of records = flat_map (λ (r : Record O Q). read_by r.place r.caller r.round r.act) records

  -- the records of the rounds before a round, of those up to and with it, and of one caller
  abbrev pub before : ℕ → List (Record O Q) → List (Record O Q)
  before round records = filter (λ (r : Record O Q). nat_lt r.round round) records

  abbrev pub up_to : ℕ → List (Record O Q) → List (Record O Q)
  up_to round records = filter (λ (r : Record O Q). nat_le r.round round) records

  abbrev pub records_of : ℕ → List (Record O Q) → List (Record O Q)
  records_of caller records = filter (λ (r : Record O Q). r.caller == caller) records

-- the entries of a journal, and the answered reads, of one caller
abbrev pub entries_of : {O : Type 0} → ℕ → List (Entry O) → List (Entry O)
entries_of {O} caller entries = filter (λ (e : Entry O). e.caller == caller) entries

abbrev pub answered_of : {Q : Type 0} → ℕ → List (Answered Q) → List (Answered Q)
answered_of {Q} caller reads = filter (λ (a : Answered Q). a.asked.caller == caller) reads
