-- The form of a text that tells a run, and the numbers that it names.
use Rattle.std.specs.Prelude.{◌≡◌, ◌<◌, ◌+◌, ◌^◌, ◌++◌, ◌∷◌, [], ℕ, List, map, All}
use Rattle.std.specs.List.{flat_map}
use Rattle.serve_text.specs.Texts.{last_text, line_feed, reply_head, order_line}
use Rattle.serve_text.specs.Determined.{HasNoLineFeed}

-- a read as a line tells it: the number of its record, the number of a version, and an answer
pub record Told : Type 0 where
  pub place : ℕ
  pub number : ℕ
  pub answer : List ℕ

abbrev pub told_line : Told → List ℕ
told_line t = reply_head t.place t.number ++ (t.answer ++ line_feed ∷ [])

-- the lines that tell an order of batches by their records' numbers, with places from a number on
abbrev pub numbers_text : ℕ → List ℕ → List ℕ
numbers_text place [] = []
numbers_text place (n ∷ ns) = order_line place n ++ numbers_text (place + 1) ns

abbrev pub IsNumber : ℕ → Type 0
IsNumber n = n < 2 ^ 64

-- the lines that tell reads, and then an order of batches, and what stands behind them
abbrev pub told_text : List Told → List ℕ → List ℕ → List ℕ
told_text told order last = flat_map told_line told ++ (numbers_text 1 order ++ last)

-- the text has a line for each read of these records, in order, then an order of numbers, and a last line
pub record HasForm (places numbers order text : List ℕ) : Type 0 where
  pub told : List Told
  pub totals : List ℕ
  pub places_are : map (λ (t : Told). t.place) told ≡ places
  pub numbers_are : map (λ (t : Told). t.number) told ≡ numbers
  pub is : text ≡ flat_map told_line told ++ (numbers_text 1 order ++ last_text totals)
  pub fit : All IsNumber numbers
  pub order_fits : All IsNumber order
  pub answers_in_line : All (λ (t : Told). HasNoLineFeed t.answer) told
  pub totals_in_line : HasNoLineFeed totals

-- the text is of the form of a run, and tells these reads, this order of numbers and this last line
pub record Tells (places : List ℕ) (told : List Told) (order last text : List ℕ) : Type 0 where
  pub form : HasForm places (map (λ (t : Told). t.number) told) order text
  pub told_is : form.told ≡ told
  pub last_is : last_text form.totals ≡ last
