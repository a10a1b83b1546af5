-- The first lines of a text.
use Rattle.std.specs.Prelude.{◌≡◌, ◌++◌, ℕ, List, map, All}
use Rattle.std.specs.List.{flat_map}
use Rattle.serve_text.specs.Determined.{HasNoLineFeed}
use Rattle.run_text.specs.Forms.{Told, told_line, IsNumber}

-- the first line names a number for a read's record
pub record TellsOne (place number : ℕ) (text rest : List ℕ) : Type 0 where
  pub answer : List ℕ
  pub in_line : HasNoLineFeed answer
  pub is : text ≡ told_line (record { place = place; number = number; answer = answer }) ++ rest

-- the first lines name numbers for the reads of these records
pub record TellsReads (places numbers text rest : List ℕ) : Type 0 where
  pub told : List Told
  pub places_are : map (λ (t : Told). t.place) told ≡ places
  pub numbers_are : map (λ (t : Told). t.number) told ≡ numbers
  pub fit : All IsNumber numbers
  pub in_line : All (λ (t : Told). HasNoLineFeed t.answer) told
  pub is : text ≡ flat_map told_line told ++ rest

-- the first line tells this read
pub record TellsThis (told : Told) (text rest : List ℕ) : Type 0 where
  pub fits : IsNumber told.number
  pub in_line : HasNoLineFeed told.answer
  pub is : text ≡ told_line told ++ rest

-- the first lines tell these reads, which are of these records
pub record TellsThese (places : List ℕ) (told : List Told) (text rest : List ℕ) : Type 0 where
  pub places_are : map (λ (t : Told). t.place) told ≡ places
  pub fit : All (λ (t : Told). IsNumber t.number) told
  pub in_line : All (λ (t : Told). HasNoLineFeed t.answer) told
  pub is : text ≡ flat_map told_line told ++ rest
