-- A base and the entries of a journal, and the state that they lead to.
use Rattle.std.specs.Prelude.{◌≡◌, List, Option, None, Some, fold, map}
use Rattle.std.specs.List.{flat_map}
use Rattle.versions.specs.declared.batch.Entry.{Entry}

pub record History (S O : Type 0) : Type 0 where
  pub base : S
  pub journal : List (Entry O)

abbrev pub history : {S O : Type 0} → S → List (Entry O) → History S O
history base journal = record { base = base; journal = journal }

abbrev pub batches_in : {O : Type 0} → List (Entry O) → List (List O)
batches_in {O} entries = map (λ (entry : Entry O). entry.batch) entries

module _ {S O : Type 0} (step : S → O → S) where
  -- the state after the operations of the batches in order
  abbrev pub after : S → List (List O) → S
  after state batches = fold step state (flat_map (λ batch. batch) batches)

  abbrev pub state_of : History S O → S
  state_of h = after h.base (batches_in h.journal)

  -- what a version stores as its state: nothing while that is the base
  abbrev pub IsStateOf : History S O → Option S → Type 0
  IsStateOf h None = state_of h ≡ h.base
  IsStateOf h (Some state) = state ≡ state_of h
