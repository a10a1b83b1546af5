-- The terms of a text.
use Rattle.std.specs.Prelude.{◌≡◌, ◌==◌, ℕ, List, [], ◌∷◌, Bool, true, false, map, length, filter, count_by, not}
use Rattle.std.specs.List.{list_all, slice_split}
use Rattle.std.specs.Cmp.Lexicographic.{slice_cmp}
use Rattle.std.specs.Ordering.{nat_cmp, is_eq}
use Rattle.std.specs.declared.cmp.Ordering.{Ordering}
use Rattle.std.specs.Char.{is_ascii_alphanumeric, to_ascii_lowercase}
use Rattle.map_model.specs.Operations.{build}

-- at least one byte, all of them ASCII letters or digits
abbrev pub is_term : List ℕ → Bool
is_term [] = false
is_term (b ∷ bs) = list_all is_ascii_alphanumeric (b ∷ bs)

-- capital letters become small
abbrev pub small : List ℕ → List ℕ
small bytes = map to_ascii_lowercase bytes

-- what a term of the index is: letters and digits, none of them a capital letter
pub record IsTerm (bytes : List ℕ) : Type 0 where
  pub lawful : is_term bytes ≡ true
  pub is_small : small bytes ≡ bytes

-- the order of bytes
abbrev pub bytes_cmp : List ℕ → List ℕ → Ordering
bytes_cmp = slice_cmp nat_cmp

-- no letter and no digit
abbrev pub separates : ℕ → Bool
separates b = not (is_ascii_alphanumeric b)

abbrev pub is_filled : List ℕ → Bool
is_filled run = not (length run == 0)

-- the longest runs of letters and digits, made small, in order
abbrev pub terms_of : List ℕ → List (List ℕ)
terms_of text = map small (filter is_filled (slice_split separates text))

-- how often a term is among some
abbrev pub times : List (List ℕ) → List ℕ → ℕ
times terms term = count_by (λ t. is_eq (bytes_cmp t term)) terms

-- each of some terms with how often it is among them, in the order of bytes
abbrev pub tally : List (List ℕ) → List (List ℕ × ℕ)
tally terms = build bytes_cmp (map (λ t. (t, times terms t)) terms)

-- the terms of a text, each with how often the text has it
abbrev pub weights_of : List ℕ → List (List ℕ × ℕ)
weights_of text = tally (terms_of text)

-- terms with how often they are there, each with the weight of that
abbrev pub reweighed : (ℕ → ℕ) → List (List ℕ × ℕ) → List (List ℕ × ℕ)
reweighed weight counts = map (λ e. (e.0, weight e.1)) counts

-- the terms of a text, each with the weight of how often the text has it among so many
abbrev pub weighed_by : (ℕ → ℕ → ℕ) → List ℕ → List (List ℕ × ℕ)
weighed_by weight text = reweighed (λ times. weight times (length (terms_of text))) (weights_of text)
