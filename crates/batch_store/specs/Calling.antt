-- What contracts see of a caller.
use Rattle.std.specs.Prelude.{◌≡◌, ℕ, List}
use Rattle.lanes.specs.Lane.{LaneId, Sending}
use Rattle.version_root.specs.Public.{Reading, Stays}
use Rattle.batch_store.specs.declared.submitted.Submitted.{Submitted}

-- its number, its lane with what it has sent, and its reader
pub record Calling (S O : Type 0) : Type 0 where
  pub number : ℕ
  pub lane : LaneId
  pub sent : List (Submitted O)
  pub reader : Reading S O

module _ {S O : Type 0} where
  abbrev pub calling : ℕ → Sending (Submitted O) → Reading S O → Calling S O
  calling number submitter reader = record { number = number; lane = submitter.lane; sent = submitter.sent; reader = reader }

  -- the same caller, whatever it has sent and seen
  pub record SameCaller (before after : Calling S O) : Type 0 where
    pub number : after.number ≡ before.number
    pub lane : after.lane ≡ before.lane
    pub reader : Stays before.reader after.reader
