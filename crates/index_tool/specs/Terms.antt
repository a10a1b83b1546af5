-- Lawful terms, and the records that have them.
use Rattle.std.specs.Prelude.{◌≡◌, ℕ, [], ◌∷◌, List, true, Result, Ok, Err, drop, if◌then◌else◌}
use Rattle.inverted_index.specs.Terms.{is_term}
use Rattle.script.specs.Fields.{field, number_in}
use Rattle.script.specs.Records.{Fields}
use Rattle.script.specs.Results.{◌>>=◌}
use Rattle.script.specs.Shapes.{with_at_least, with_fields}
use Rattle.script.specs.declared.fault.Code.{Code}
use Rattle.script.specs.declared.fault.Code.TheVariants as code

-- a term as a record names it, whose letters may be capital
abbrev pub IsTerm : List ℕ → Type 0
IsTerm bytes = is_term bytes ≡ true

abbrev pub term_of : List ℕ → Result (List ℕ) Code
term_of bytes = if is_term bytes then Ok bytes else Err code.Term

abbrev pub term_in : Fields → ℕ → Result (List ℕ) Code
term_in r i = term_of (field r i)

-- fields that are all terms
unfoldable pub terms_of : Fields → Result (List (List ℕ)) Code
terms_of [] = Ok []
terms_of (f ∷ fs) = do
  t ← term_of f
  ts ← terms_of fs
  Ok (t ∷ ts)

-- a verb and any number of terms, at least one
abbrev pub some_terms : Fields → Result (List (List ℕ)) Code
some_terms r = with_at_least 2 r (terms_of (drop 1 r))

-- a verb and two terms
abbrev pub two_terms : Fields → Result (List (List ℕ)) Code
two_terms r = with_fields 3 r (terms_of (drop 1 r))

-- a verb, a number and a term
abbrev pub number_term : Fields → Result (ℕ × List ℕ) Code
number_term r = with_fields 3 r (do
  n ← number_in r 1
  t ← term_in r 2
  Ok (n, t))
