-- What the seats of a root hold, and what contracts see of them.
use Rattle.std.specs.Prelude.{◌≡◌, ◌≢◌, ℕ, zero, suc, ◌*◌, ◌≤◌, Bool, true, false, List, [], ◌∷◌, Option, Some, min}
use Rattle.atomic_table.specs.Seated.{TableId}
use Rattle.atomic_table.specs.declared.shared.Seat.{Seat}
use Rattle.versions.specs.declared.batch.Entry.{Entry}
use Rattle.version_root.specs.declared.view.View.{View}
use Rattle.version_root.specs.declared.view.Tries.{Tries}
use Rattle.version_root.specs.declared.view.Lead.{Lead}
use Rattle.version_root.specs.declared.view.Role.{Role}
use Rattle.version_root.specs.declared.view.Role.TheVariants.{Spent, Notice, Reader, Writer}
use Rattle.versions.specs.History.{History, history}
use Rattle.version_root.specs.Root.{IsStripe, own_stripe, readers_of}

abbrev pub number_of : Role → ℕ
number_of (Reader tries) = tries.number
number_of _ = 1

abbrev pub lost_of : Role → ℕ
lost_of (Reader tries) = tries.lost
lost_of _ = 0

abbrev pub found_of : Role → ℕ
found_of (Reader tries) = tries.found
found_of _ = 0

-- as many slots as words, eight for each stripe, and one stripe at least and eight at most
pub record IsStriped (z : TableId) : Type 0 where
  pub square : z.words ≡ z.slots
  pub spaced : IsStripe z.slots
  pub some_stripe : 8 ≤ z.slots
  pub few_stripes : z.slots ≤ 64

module _ {S O : Type 0} where
  -- the seat is that of a reader with this number, of this root. It carries these slots
  pub record IsReaderSeat (z : TableId) (base : S) (number stripe : ℕ) (turn : Bool) (carried : List (ℕ × Option (History S O))) (seat : Seat (Option (History S O)) (View S O)) : Type 0 where
    pub striped : IsStriped z
    pub table_is : seat.table_id ≡ z
    pub base_is : seat.me.0.base ≡ Some base
    pub carried_is : seat.me.1 ≡ carried
    pub tries : (t : Tries) × (seat.me.0.role ≡ Reader t) × (t.number ≡ number) × (t.has_turn ≡ turn)
    pub own : stripe ≡ own_stripe z.slots number

  -- a reader's seat between two calls
  abbrev pub IsReader : TableId → S → ℕ → ℕ → Seat (Option (History S O)) (View S O) → Type 0
  IsReader z base number stripe seat = IsReaderSeat z base number stripe false [] seat

  -- a reader's seat while it has its turn, with the version in its slot
  abbrev pub HasVersion : TableId → S → ℕ → ℕ → Seat (Option (History S O)) (View S O) → Type 0
  HasVersion z base number stripe seat = IsReaderSeat z base number stripe true ((stripe, Some (history base seat.me.0.seen)) ∷ []) seat

-- the slots of so many stripes, from the first on, each with the value x: the last one taken first
abbrev pub laid : {X : Type 0} → ℕ → X → List (ℕ × X)
laid zero x = []
laid (suc k) x = (8 * k, x) ∷ laid k x

module _ {S O : Type 0} where
  -- the seat is the writer's, with the turns of the stripes below `held`. It carries these slots
  pub record IsWriterSeat (z : TableId) (base : S) (held : ℕ) (carried : List (ℕ × Option (History S O))) (seat : Seat (Option (History S O)) (View S O)) : Type 0 where
    pub striped : IsStriped z
    pub table_is : seat.table_id ≡ z
    pub base_is : seat.me.0.base ≡ Some base
    pub carried_is : seat.me.1 ≡ carried
    pub lead : (l : Lead) × (seat.me.0.role ≡ Writer l) × (l.held ≡ held)

  -- the writer's seat between two calls, with the version of its journal
  pub record IsWriter (z : TableId) (base : S) (current : History S O) (seat : Seat (Option (History S O)) (View S O)) : Type 0 where
    pub seat_is : IsWriterSeat z base 0 [] seat
    pub current_is : current ≡ history base seat.me.0.seen

module _ {S O : Type 0} where
  -- a notice's seat
  pub record IsNotice (z : TableId) (seat : Seat (Option (History S O)) (View S O)) : Type 0 where
    pub table_is : seat.table_id ≡ z
    pub carried_is : seat.me.1 ≡ []
    pub role_is : seat.me.0.role ≡ Notice

module _ {S O : Type 0} where
  -- the writer's seat before the first call, with so many readers made
  pub record IsFirstWriter (z : TableId) (base : S) (readers : ℕ) (seat : Seat (Option (History S O)) (View S O)) : Type 0 where
    pub seat_is : IsWriterSeat z base 0 [] seat
    pub readers_is : readers_of seat.me.0.role ≡ readers
    pub seen_is : seat.me.0.seen ≡ []

  -- a table of a root for so many readers, with the writer's seat
  pub record IsOpen (z : TableId) (key base : S) (readers : ℕ) (seat : Seat (Option (History S O)) (View S O)) : Type 0 where
    pub key_is : key ≡ base
    pub stripes_are : z.words ≡ 8 * min readers 8
    pub seat_is : IsFirstWriter z key 0 seat

module _ {S O : Type 0} where
  -- a seat that a notice can be split off
  pub record IsTeller (z : TableId) (base : S) (seat : Seat (Option (History S O)) (View S O)) : Type 0 where
    pub striped : IsStriped z
    pub table_is : seat.table_id ≡ z
    pub base_is : seat.me.0.base ≡ Some base
    pub live : seat.me.0.role ≢ Spent

-- what contracts see of a notice: its root with the root's base, and the list that it tells of
pub record Telling (S O : Type 0) : Type 0 where
  pub root : TableId
  pub base : S
  pub seen : List (Entry O)

abbrev pub telling : {S O : Type 0} → TableId → S → View S O → Telling S O
telling root base v = record { root = root; base = base; seen = v.seen }

-- what contracts see of a writer: its root with the root's base, and its journal
pub record Writing (S O : Type 0) : Type 0 where
  pub root : TableId
  pub base : S
  pub journal : List (Entry O)

abbrev pub writing : {S O : Type 0} → TableId → S → View S O → Writing S O
writing root base v = record { root = root; base = base; journal = v.seen }

-- what contracts see of a reader: its root with the root's base, its number, the list that it has seen, how many turns it has lost, and the word that it found when it lost the last one
pub record Reading (S O : Type 0) : Type 0 where
  pub root : TableId
  pub base : S
  pub number : ℕ
  pub seen : List (Entry O)
  pub lost : ℕ
  pub found : ℕ

abbrev pub reading : {S O : Type 0} → TableId → S → View S O → Reading S O
reading root base v = record { root = root; base = base; number = number_of v.role; seen = v.seen; lost = lost_of v.role; found = found_of v.role }
