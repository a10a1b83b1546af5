-- Lines of many callers, put in the order of the records.
use Rattle.std.specs.Prelude.{◌≡◌, ◌≢◌, ◌<◌, ◌+◌, ◌++◌, ◌∷◌, ℕ, List, length, map, drop, slice_index_or, All}
use Rattle.std.specs.List.{flat_map}
use Rattle.serve_text.specs.declared.record.Record.{Record}
use Rattle.serve_text.specs.Records.{Answered, reads_of, answered_of}

-- the first line of a caller, where it has one, is moved to the end of the text
pub record WritesFirst (caller : ℕ) (before after : List (List (List ℕ))) (text longer : List ℕ) : Type 0 where
  pub count : length after ≡ length before
  pub moved : (line : List ℕ) (rest d : List (List ℕ)) → caller < length before → slice_index_or before caller d ≡ line ∷ rest
      → (slice_index_or after caller d ≡ rest) × (longer ≡ text ++ line)
  pub others : (i : ℕ) (d : List (List ℕ)) → i ≢ caller → slice_index_or after i d ≡ slice_index_or before i d

module _ {Q : Type 0} where
  -- each caller's lines are those of its reads
  pub record AreLinesOf (line : Answered Q → List ℕ) (reads : List (Answered Q)) (lines : List (List (List ℕ))) : Type 0 where
    pub each : (c : ℕ) (d : List (List ℕ)) → c < length lines → slice_index_or lines c d ≡ map line (answered_of c reads)

module _ {O Q : Type 0} where
  -- the lines of the reads of the first k records are written, and the others wait
  pub record WeavesTo (k : ℕ) (records : List (Record O Q)) (line : Answered Q → List ℕ) (reads : List (Answered Q)) (lines : List (List (List ℕ))) (text longer : List ℕ) : Type 0 where
    pub written : List (Answered Q)
    pub waiting : List (Answered Q)
    pub both : reads ≡ written ++ waiting
    pub asked : map (λ (a : Answered Q). a.asked) waiting ≡ reads_of (drop k records)
    pub lines_are : AreLinesOf line waiting lines
    pub text_is : longer ≡ text ++ flat_map line written

  -- where each caller's lines are those of its reads, the text gets the lines of all reads, in record order
  pub record Weaves (records : List (Record O Q)) (lines : List (List (List ℕ))) (text longer : List ℕ) : Type 0 where
    pub is : (line : Answered Q → List ℕ) (reads : List (Answered Q)) → All (λ (r : Record O Q). r.caller < length lines) records
        → map (λ (a : Answered Q). a.asked) reads ≡ reads_of records → AreLinesOf line reads lines → longer ≡ text ++ flat_map line reads

  -- the same for the first k records
  pub record WeavesSome (k : ℕ) (records : List (Record O Q)) (lines now : List (List (List ℕ))) (text longer : List ℕ) : Type 0 where
    pub count : length now ≡ length lines
    pub is : (line : Answered Q → List ℕ) (reads : List (Answered Q)) → All (λ (r : Record O Q). r.caller < length lines) records
        → map (λ (a : Answered Q). a.asked) reads ≡ reads_of records → AreLinesOf line reads lines → WeavesTo k records line reads now text longer

  -- the same for one record more
  pub record WeavesOne (r : Record O Q) (lines now : List (List (List ℕ))) (text longer : List ℕ) : Type 0 where
    pub on : (k : ℕ) (records : List (Record O Q)) (first : List (List (List ℕ))) (start : List ℕ) → k < length records → r ≡ slice_index_or records k r
        → WeavesSome k records first lines start text → WeavesSome (k + 1) records first now start longer
