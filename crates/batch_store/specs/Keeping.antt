-- What contracts see of a store, and what a turn leaves.
use Rattle.std.specs.Prelude.{◌≡◌, ◌⊎◌, List, [], ◌++◌}
use Rattle.version_root.specs.Public.{TableId, Entry, Writing}
use Rattle.lanes.specs.Lane.{Receiving}
use Rattle.batch_store.specs.declared.submitted.Submitted.{Submitted}
use Rattle.batch_store.specs.Journal.{lanes_of, IsTakenFrom}

-- its root with the root's base, its lanes with what each of its callers' lanes gave, what is published, and what was taken and is not yet published
pub record Keeping (S O : Type 0) : Type 0 where
  pub root : TableId
  pub base : S
  pub lanes : List (Receiving (Submitted O))
  pub journal : List (Entry O)
  pub pending : List (Entry O)

module _ {S O : Type 0} where
  abbrev pub keeping : Writing S O → List (Receiving (Submitted O)) → List (Entry O) → Keeping S O
  keeping writer intakes pending =
      record { root = writer.root; base = writer.base; lanes = intakes; journal = writer.journal; pending = pending }

  -- the same store, whatever it has taken and published
  pub record SameStore (before after : Keeping S O) : Type 0 where
    pub root : after.root ≡ before.root
    pub base : after.base ≡ before.base
    pub lanes : lanes_of after.lanes ≡ lanes_of before.lanes

  -- something was taken, and it is published with all that was pending, in order
  pub record Publishes (before after : Keeping S O) : Type 0 where
    pub taken : List (Entry O)
    pub from : IsTakenFrom taken before.lanes after.lanes
    pub journal : after.journal ≡ before.journal ++ (before.pending ++ taken)
    pub pending : after.pending ≡ []

  -- something was taken, and it is pending
  pub record Postpones (before after : Keeping S O) : Type 0 where
    pub taken : List (Entry O)
    pub from : IsTakenFrom taken before.lanes after.lanes
    pub journal : after.journal ≡ before.journal
    pub pending : after.pending ≡ before.pending ++ taken
