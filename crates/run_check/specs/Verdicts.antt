-- Whether a text is that of a lawful run, and where it fails.
use Rattle.std.specs.Prelude.{◌≡◌, ◌↔◌, ◌<◌, ◌⊎◌, ℕ, List, length, map, take, All}
use Rattle.std.specs.List.Sorted.{IsPermutation, IsNonDecreasingBy}
use Rattle.versions.specs.declared.batch.Entry.{Entry}
use Rattle.serve_text.specs.declared.record.Record.{Record}
use Rattle.serve_text.specs.Records.{Asked, Answered, batches_of, reads_of, before, entries_of, answered_of}
use Rattle.serve_text.specs.Histories.{IsOfItsRound}
use Rattle.serve_text.specs.Texts.{IsServeText, serve_text}
use Rattle.run_text.specs.Forms.{HasForm}
use Rattle.run_check.specs.declared.verdict.Verdict.{Verdict}
use Rattle.run_check.specs.declared.verdict.Verdict.TheVariants.{Yes, No}

-- the numbers of the records of batches
abbrev pub numbers_of : {O : Type 0} → List (Entry O) → List ℕ
numbers_of {O} entries = map (λ (e : Entry O). e.tag) entries

module _ {O Q : Type 0} where
  -- the places of the reads' records
  abbrev pub places_of : List (Record O Q) → List ℕ
  places_of records = map (λ (q : Asked Q). q.place) (reads_of records)

  -- the text has the form of a run, and these are the numbers of its reads and its order of batches
  pub record IsNamed (records : List (Record O Q)) (reads : List (Answered Q)) (order text : List ℕ) : Type 0 where
    pub asked : map (λ (a : Answered Q). a.asked) reads ≡ reads_of records
    pub form : HasForm (places_of records) (map (λ (a : Answered Q). a.number) reads) order text

  -- the batches of the records, in the order of these numbers
  pub record IsOrdered (records : List (Record O Q)) (order : List ℕ) (journal : List (Entry O)) : Type 0 where
    pub once : IsPermutation (batches_of records) journal
    pub numbers : numbers_of journal ≡ order

module _ {S O Q : Type 0} (step : S → O → S) (answer : S → Q → List ℕ) (last : S → List ℕ) (base : S) (records : List (Record O Q)) (text : List ℕ) where
  -- the points 1 to 6 of a run whose reads have these numbers, and whose batches have this order
  pub record Holds (reads : List (Answered Q)) (order : List ℕ) (point : ℕ) : Type 0 where
    -- each batch stands in the order exactly once, and nothing else does
    pub once : point ≡ 1 → IsPermutation (numbers_of (batches_of records)) order
    -- the batches of one caller stand in record order
    pub callers : point ≡ 2 → (journal : List (Entry O)) → IsOrdered records order journal → (c : ℕ) → entries_of c journal ≡ entries_of c (batches_of records)
    -- the batches of the rounds before a round stand before all others
    pub rounds : point ≡ 3 → (journal : List (Entry O)) → IsOrdered records order journal
        → (k : ℕ) → IsPermutation (batches_of (before k records)) (take (length (batches_of (before k records))) journal)
    -- each read is of its round
    pub bounds : point ≡ 4 → All (IsOfItsRound records) reads
    -- along one caller's reads the number never falls
    pub never_falls : point ≡ 5 → (c : ℕ) → IsNonDecreasingBy (λ (a : Answered Q). a.number) (answered_of c reads)
    -- the text is that of this history
    pub text_is : point ≡ 6 → (journal : List (Entry O)) → IsOrdered records order journal → text ≡ serve_text step answer last base reads journal

  -- the text has the form of a run, of which all points hold
  pub record IsRun : Type 0 where
    pub reads : List (Answered Q)
    pub order : List ℕ
    pub named : IsNamed records reads order text
    pub all : (point : ℕ) → Holds reads order point

  -- the text has the form of a run, and this is the least point that fails
  pub record FailsAt (point : ℕ) : Type 0 where
    pub reads : List (Answered Q)
    pub order : List ℕ
    pub named : IsNamed records reads order text
    pub lesser : (k : ℕ) → k < point → Holds reads order k
    pub fails : ¬ (Holds reads order point)

  -- the text has not the form of a run
  abbrev pub HasNoForm : Type 0
  HasNoForm = (reads : List (Answered Q)) (order : List ℕ) → ¬ (IsNamed records reads order text)

  -- a text without the form fails at point 0, and another one at the least point that does not hold
  abbrev pub IsVerdict : Verdict → Type 0
  IsVerdict Yes = IsRun
  IsVerdict (No point) = ((point ≡ 0) × HasNoForm) ⊎ FailsAt point

  -- it is the one verdict on the text, and yes exactly where the text is that of a lawful history
  pub record IsTheVerdict (verdict : Verdict) : Type 0 where
    pub is : IsVerdict verdict
    pub only : (other : Verdict) → IsVerdict other → other ≡ verdict
    pub exactly : (verdict ≡ Yes) ↔ IsServeText step answer last base records text
