-- Reads in the order of their numbers.
use Rattle.std.specs.Prelude.{◌≡◌, ◌<◌, ℕ, List, length, slice_index_or, All}
use Rattle.std.specs.List.{Contains}
use Rattle.std.specs.List.Sorted.{IsNonDecreasingBy}
use Rattle.serve_text.specs.Records.{Answered}
use Rattle.run_check.specs.declared.turns.Turn.{Turn}

module _ {Q : Type 0} where
  -- the turn is that of the read at its place
  pub record IsTurn (reads : List (Answered Q)) (turn : Turn) : Type 0 where
    pub within : turn.at < length reads
    pub number_is : (d : Answered Q) → (slice_index_or reads turn.at d).number ≡ turn.number

  -- each read has its turn
  abbrev pub HaveTurns : List (Answered Q) → List Turn → Type 0
  HaveTurns reads turns = (i : ℕ) (d : Answered Q) → i < length reads → Contains turns (record { number = (slice_index_or reads i d).number; at = i })

  -- the reads in the order of their numbers
  pub record AreTurns (reads : List (Answered Q)) (turns : List Turn) : Type 0 where
    pub each : All (IsTurn reads) turns
    pub all : HaveTurns reads turns
    pub rise : IsNonDecreasingBy (λ (t : Turn). t.number) turns

-- the answers to the reads whose turns came are those, each at the read's place
pub record HaveAnswers {Q : Type 0} (answer : Answered Q → List ℕ) (reads : List (Answered Q)) (turns : List Turn) (answers : List (List ℕ)) : Type 0 where
  pub count : length answers ≡ length reads
  pub right : All (λ (t : Turn). (d : List ℕ) (a : Answered Q) → slice_index_or answers t.at d ≡ answer (slice_index_or reads t.at a)) turns
