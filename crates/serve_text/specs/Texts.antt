-- The text of a served input.
use Rattle.std.specs.Prelude.{◌≡◌, ◌+◌, ◌++◌, ◌∷◌, [], ℕ, List, codes, decimal, take}
use Rattle.std.specs.List.{flat_map}
use Rattle.versions.specs.declared.batch.Entry.{Entry}
use Rattle.versions.specs.History.{history, state_of}
use Rattle.serve_text.specs.declared.record.Record.{Record}
use Rattle.serve_text.specs.Records.{Answered}
use Rattle.serve_text.specs.Histories.{IsLawfulHistory}

abbrev pub comma : ℕ
comma = 44

abbrev pub line_feed : ℕ
line_feed = 10

-- a text that begins with what stood there before
abbrev pub Extends : List ℕ → List ℕ → Type 0
Extends before text = (more : List ℕ) × (text ≡ before ++ more)

-- the last line, with what it tells of the state
abbrev pub last_text : List ℕ → List ℕ
last_text totals = codes "final," ++ (totals ++ line_feed ∷ [])

-- the beginning of a read's line: its record's number, and the number of the version that answers it
abbrev pub reply_head : ℕ → ℕ → List ℕ
reply_head place number = codes "r," ++ (decimal place ++ (comma ∷ (decimal number ++ comma ∷ [])))

-- the line of a journal's entry: its place in the journal, and the number of its record
abbrev pub order_line : ℕ → ℕ → List ℕ
order_line place number = codes "j," ++ (decimal place ++ (comma ∷ (decimal number ++ line_feed ∷ [])))

-- the lines of a journal's entries, with their places from a number on
abbrev pub order_text : {O : Type 0} → ℕ → List (Entry O) → List ℕ
order_text place [] = []
order_text place (e ∷ es) = order_line place e.tag ++ order_text (place + 1) es

-- the rest of a text: the order of the batches, and the last line, for the state after all of them
abbrev pub rest_text : {S O : Type 0} → (S → O → S) → (last : S → List ℕ) → S → List (Entry O) → List ℕ
rest_text step last base journal = order_text 1 journal ++ last (state_of step (history base journal))

-- `answer` is what a state answers to a query, and `last` is the last line for a state
module _ {S O Q : Type 0} (step : S → O → S) where
  -- a read's line: the answer is that of the state after the first batches of the journal, as many as the read's number says
  unfoldable pub reply_line : (answer : S → Q → List ℕ) → S → List (Entry O) → Answered Q → List ℕ
  reply_line answer base journal a =
      reply_head a.asked.place a.number ++ (answer (state_of step (history base (take a.number journal))) a.asked.query ++ line_feed ∷ [])

  -- the first part of a text
  abbrev pub replies_text : (answer : S → Q → List ℕ) → S → List (Entry O) → List (Answered Q) → List ℕ
  replies_text answer base journal reads = flat_map (reply_line answer base journal) reads

  abbrev pub serve_text : (answer : S → Q → List ℕ) (last : S → List ℕ) → S → List (Answered Q) → List (Entry O) → List ℕ
  serve_text answer last base reads journal = replies_text answer base journal reads ++ rest_text step last base journal

  -- the text is that of a lawful history of the records
  pub record IsServeText (answer : S → Q → List ℕ) (last : S → List ℕ) (base : S) (records : List (Record O Q)) (text : List ℕ) : Type 0 where
    pub reads : List (Answered Q)
    pub journal : List (Entry O)
    pub lawful : IsLawfulHistory records reads journal
    pub is : text ≡ serve_text answer last base reads journal
