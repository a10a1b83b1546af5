-- Reads with the numbers of their versions.
use Rattle.std.specs.Prelude.{◌≡◌, ◌-◌, ℕ, List, length, map, take, drop}
use Rattle.versions.specs.History.{after}
use Rattle.serve_text.specs.Records.{Asked, Answered}
use Rattle.run_text.specs.Forms.{Told}

-- the items of a list from one place on and before another
abbrev pub between : {X : Type 0} → ℕ → ℕ → List X → List X
between {X} from to xs = take (to - from) (drop from xs)

-- the numbers, the places and the answers that lines tell
abbrev pub numbers_told : List Told → List ℕ
numbers_told told = map (λ (t : Told). t.number) told

abbrev pub places_told : List Told → List ℕ
places_told told = map (λ (t : Told). t.place) told

abbrev pub answers_told : List Told → List (List ℕ)
answers_told told = map (λ (t : Told). t.answer) told

module _ {Q : Type 0} where
  abbrev pub asked_in : List (Answered Q) → List (Asked Q)
  asked_in reads = map (λ (a : Answered Q). a.asked) reads

  abbrev pub numbers_in : List (Answered Q) → List ℕ
  numbers_in reads = map (λ (a : Answered Q). a.number) reads

  -- the reads have the first of the numbers
  abbrev pub HaveNumbers : List (Answered Q) → List ℕ → Type 0
  HaveNumbers reads numbers = numbers_in reads ≡ take (length reads) numbers

module _ {S O Q : Type 0} (step : S → O → S) where
  -- what a read is answered: by the state after the first batches, as many as its number says
  abbrev pub answer_to : (answer : S → Q → List ℕ) → S → List (List O) → Answered Q → List ℕ
  answer_to answer base batches a = answer (after step base (take a.number batches)) a.asked.query

  -- lines tell what the reads are answered, and the last line is that of the state after all batches
  pub record AreRight (answer : S → Q → List ℕ) (last : S → List ℕ) (base : S) (batches : List (List O)) (reads : List (Answered Q)) (told : List Told) (end : List ℕ) : Type 0 where
    pub answers : answers_told told ≡ map (answer_to answer base batches) reads
    pub ends : end ≡ last (after step base batches)
