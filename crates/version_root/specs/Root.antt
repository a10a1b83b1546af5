-- The rule of a root's table.
-- A stripe's word is 0 while its turn is free, 1 while the writer has it, and a reader's number, from 2 on, while that reader has it.
use Rattle.std.specs.Prelude.{◌≡◌, ◌≢◌, ℕ, ◌+◌, ◌-◌, ◌*◌, ◌/◌, ◌%◌, ◌<◌, ◌≤◌, true, false, List, [], ◌∷◌, length, slice_index, Option, Some, None, All, min}
use mathlib.Core.Option.{some}
use lib.ListN.{get_elem?}
use Rattle.atomic_table.specs.Table.{State}
use Rattle.versions.specs.declared.batch.Entry.{Entry}
use Rattle.version_root.specs.declared.view.View.{View}
use Rattle.version_root.specs.declared.view.Tries.{Tries}
use Rattle.version_root.specs.declared.view.Lead.{Lead}
use Rattle.version_root.specs.declared.view.Role.{Role}
use Rattle.version_root.specs.declared.view.Role.TheVariants.{Spent, Notice, Reader, Writer}
use Rattle.versions.specs.History.{History, history}
use Rattle.versions.specs.Prefix.{IsPrefix, longer}

-- A table of a root has as many slots as words. Of every eight the first is a stripe, so that no two stripes stand on one cache line:
-- the others are not used. A stripe is named by the index of its word, which is that of its slot
abbrev pub IsStripe : ℕ → Type 0
IsStripe i = i % 8 ≡ 0

-- the stripe of the reader with this number, in a table of so many words
abbrev pub own_stripe : ℕ → ℕ → ℕ
own_stripe words number = 8 * ((number - 2) % (words / 8))

-- the role has the turn of the stripe i, in a table of so many words, where the word is `word`
abbrev pub HasTurn : ℕ → ℕ → ℕ → Role → Type 0
HasTurn words i word Spent = ⊥
HasTurn words i word Notice = ⊥
HasTurn words i word (Reader tries) = (tries.has_turn ≡ true) × (tries.number ≡ word) × (i ≡ own_stripe words tries.number)
HasTurn words i word (Writer lead) = (1 ≡ word) × (i < lead.held)

module _ {O : Type 0} where
  pub record ReaderFits (owner : ℕ → ℕ) (journal : List (Entry O)) (lead : Lead) (words : List ℕ) (seat : ℕ) (seen : List (Entry O)) (tries : Tries) : Type 0 where
    pub not_below : 2 ≤ tries.number
    pub not_above : tries.number < lead.readers + 2
    pub own : owner tries.number ≡ seat
    pub turn : tries.has_turn ≡ true → (slice_index words (own_stripe (length words) tries.number) ≡ tries.number) × (seen ≡ journal)
    pub lost : 0 < tries.lost → (tries.found ≢ 0) × (tries.found ≢ tries.number)

  pub record WriterFits (owner : ℕ → ℕ) (journal : List (Entry O)) (lead : Lead) (words : List ℕ) (seat : ℕ) (seen : List (Entry O)) (mine : Lead) : Type 0 where
    pub own : owner 1 ≡ seat
    pub lead_is : mine ≡ lead
    pub seen_is : seen ≡ journal
    pub within : mine.held ≤ length words
    pub turns : (i : ℕ) → i < mine.held → IsStripe i → slice_index words i ≡ 1

module _ {S O : Type 0} where
  -- what each seat knows that is not spent
  pub record Knows (base : S) (journal : List (Entry O)) (v : View S O) : Type 0 where
    pub base_is : v.base ≡ Some base
    pub seen : IsPrefix v.seen journal
    pub older : All (λ list. IsPrefix list v.seen) v.older

  module _ (owner : ℕ → ℕ) (base : S) (journal : List (Entry O)) (lead : Lead) (words : List ℕ) where
    abbrev pub Fits : ℕ → View S O → Role → Type 0
    Fits seat v Spent = Unit {0}
    Fits seat v Notice = Knows base journal v
    Fits seat v (Reader tries) = Knows base journal v × ReaderFits owner journal lead words seat v.seen tries
    Fits seat v (Writer mine) = Knows base journal v × WriterFits owner journal lead words seat v.seen mine

    pub record StripeFits (homes : List (mathlib.Core.Option.Option (Option (History S O)))) (views : List (View S O)) (i : ℕ) : Type 0 where
      pub free : slice_index words i ≡ 0 → get_elem? homes i ≡ some (some (Some (history base journal)))
      pub taken : slice_index words i ≢ 0 → (v : View S O) × (get_elem? views (owner (slice_index words i)) ≡ some v) × HasTurn (length words) i (slice_index words i) v.role

  -- A root for so many readers has `min readers 8` stripes, each with eight words and slots, of which it uses the first. `owner` is the seat of the writer, whose number is 1, and of each reader by its number
  pub record Ruled (base : S) (readers : ℕ) (s : State (Option (History S O)) (View S O)) : Type 0 where
    pub owner : ℕ → ℕ
    pub journal : List (Entry O)
    pub lead : Lead
    pub striped : length s.words ≡ 8 * min readers 8
    pub some_stripe : 8 ≤ length s.words
    pub deep : length s.homes ≡ length s.words
    pub led : (v : View S O) × (get_elem? s.views (owner 1) ≡ some v) × (v.role ≡ Writer lead)
    pub each_seat : (j : ℕ) (v : View S O) → get_elem? s.views j ≡ some v → Fits owner base journal lead s.words j v v.role
    pub each_stripe : (i : ℕ) → i < length s.words → IsStripe i → StripeFits owner base journal lead s.words s.homes s.views i

  abbrev pub opening_view : S → View S O
  opening_view base = record { role = Writer (record { readers = 0; held = 0 }); base = Some base; seen = []; older = [] }

-- a seat with this role may take in a notice
abbrev pub Listens : Role → Type 0
Listens Spent = ⊥
Listens Notice = ⊥
Listens (Reader tries) = tries.has_turn ≡ false
Listens (Writer lead) = Unit {0}

-- the writer knows all that it could be told
abbrev pub seen_after : {A : Type 0} → Role → List A → List A → List A
seen_after (Writer lead) mine told = mine
seen_after _ mine told = longer mine told

abbrev pub readers_of : Role → ℕ
readers_of (Writer lead) = lead.readers
readers_of _ = 0

abbrev pub with_reader : Role → Role
with_reader (Writer lead) = Writer (record { readers = lead.readers + 1; held = lead.held })
with_reader role = role

module _ {S O : Type 0} where
  abbrev pub notice_of : View S O → View S O
  notice_of v = record { role = Notice; base = v.base; seen = v.seen; older = [] }

  abbrev pub spent_view : View S O
  spent_view = record { role = Spent; base = None; seen = []; older = [] }

  abbrev pub informed : View S O → View S O → View S O
  informed v w = record { role = v.role; base = v.base; seen = seen_after v.role v.seen w.seen; older = v.seen ∷ w.seen ∷ [] }

  abbrev pub enlisting : View S O → View S O
  enlisting v = record { role = with_reader v.role; base = v.base; seen = v.seen; older = v.older }

  abbrev pub enlisted : View S O → View S O
  enlisted v = record { role = Reader (record { number = readers_of v.role + 2; lost = 0; found = 0; has_turn = false }); base = v.base; seen = v.seen; older = [] }
