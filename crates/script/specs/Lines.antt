-- The lines that are written.
use Rattle.std.specs.Prelude.{◌≡◌, ◌++◌, ◌∷◌, [], ℕ, List, codes, decimal, length}
use Rattle.std.specs.List.{flat_map}
use Rattle.script.specs.declared.fault.BadRecord.{BadRecord}
use Rattle.script.specs.declared.fault.Code.{Code}
use Rattle.script.specs.declared.fault.Code.TheVariants as code

abbrev pub comma : ℕ
comma = 44

abbrev pub line_feed : ℕ
line_feed = 10

-- a word, then a comma and a decimal number for each number
abbrev pub reply_of : List ℕ → List ℕ → List ℕ
reply_of word numbers = word ++ flat_map (λ n. comma ∷ decimal n) numbers

-- the same, then a line feed
abbrev pub line_of : List ℕ → List ℕ → List ℕ
line_of word numbers = word ++ flat_map (λ n. comma ∷ decimal n) numbers ++ line_feed ∷ []

abbrev pub code_word : Code → List ℕ
code_word code.Verb = codes "verb"
code_word code.Fields = codes "fields"
code_word code.Number = codes "number"
code_word code.Register = codes "register"
code_word code.How = codes "how"
code_word code.Term = codes "term"
code_word code.Callers = codes "callers"
code_word code.Caller = codes "caller"
code_word code.Op = codes "op"
code_word code.Interval = codes "interval"
code_word code.Run = codes "run"

-- how many rows there are, and then the numbers of each
abbrev pub counted : {T : Type 0} → (T → List ℕ) → List T → List ℕ
counted numbers_of rows = length rows ∷ flat_map numbers_of rows

-- the one line for a bad record
abbrev pub error_line_of : BadRecord → List ℕ
error_line_of bad = codes "error," ++ decimal bad.place ++ comma ∷ code_word bad.code ++ line_feed ∷ []

-- the first part of a text
abbrev pub IsPrefix : List ℕ → List ℕ → Type 0
IsPrefix front text = (rest : List ℕ) × (text ≡ front ++ rest)
