-- Batches with their rounds.
use Rattle.std.specs.Prelude.{◌≡◌, ◌==◌, ◌<◌, ℕ, List, [], ◌∷◌, filter, map}
use Rattle.std.specs.List.{flat_map, AllPairs}
use Rattle.versions.specs.declared.batch.Entry.{Entry}
use Rattle.serve_text.specs.declared.record.Act.{Act}
use Rattle.serve_text.specs.declared.record.Act.TheVariants.{Submit, Read}
use Rattle.serve_text.specs.declared.record.Record.{Record}
use Rattle.run_check.specs.declared.placed.Placed.{Placed}

module _ {O Q : Type 0} where
  abbrev pub placed_by : ℕ → ℕ → ℕ → Act O Q → List (Placed O)
  placed_by round caller place (Submit batch) = record { round = round; entry = record { caller = caller; tag = place; batch = batch } } ∷ []
  placed_by round caller place (Read query) = []

  -- the batches that the records submit, in order, each with its round
  unfoldable pub placed_of : List (Record O Q) → List (Placed O)
  placed_of records = flat_map (λ (r : Record O Q). placed_by r.round r.caller r.place r.act) records

module _ {O : Type 0} where
  -- their entries, and the numbers of their records
  abbrev pub entries_in : List (Placed O) → List (Entry O)
  entries_in placed = map (λ (p : Placed O). p.entry) placed

  abbrev pub tags_of : List (Placed O) → List ℕ
  tags_of placed = map (λ (p : Placed O). p.entry.tag) placed

  -- the numbers rise
  abbrev pub TagsRise : List (Placed O) → Type 0
  TagsRise placed = AllPairs (λ (p q : Placed O). p.entry.tag < q.entry.tag) placed

  -- a batch of these is the only one of its number
  abbrev pub IsOnlyOf : List (Placed O) → Placed O → Type 0
  IsOnlyOf placed p = filter (λ (q : Placed O). q.entry.tag == p.entry.tag) placed ≡ p ∷ []
