-- What each step on a stripe's word tells its seat.
use Rattle.std.specs.Prelude.{◌≡◌, ◌≢◌, ℕ, ◌+◌, ◌-◌, true, false, List, ◌∷◌, Option, Some, All, ◌==◌, if◌then◌else◌}
use Rattle.atomic_table.specs.Table.{Me, Step, rest}
use Rattle.versions.specs.declared.batch.Entry.{Entry}
use Rattle.version_root.specs.declared.view.View.{View}
use Rattle.version_root.specs.declared.view.Tries.{Tries}
use Rattle.version_root.specs.declared.view.Lead.{Lead}
use Rattle.version_root.specs.declared.view.Role.{Role}
use Rattle.version_root.specs.declared.view.Role.TheVariants.{Reader, Writer}
use Rattle.versions.specs.History.{History, history}
use Rattle.versions.specs.Prefix.{IsPrefix}

abbrev pub with_turn : Tries → Tries
with_turn t = record { number = t.number; lost = t.lost; found = t.found; has_turn = true }

abbrev pub without_turn : Tries → Tries
without_turn t = record { number = t.number; lost = t.lost; found = t.found; has_turn = false }

-- the reader found this word, which is not 0
abbrev pub losing : Tries → ℕ → Tries
losing t word = record { number = t.number; lost = t.lost + 1; found = word; has_turn = t.has_turn }

abbrev pub after_look : Role → ℕ → Role
after_look (Reader t) word = Reader (if word == 0 then t else losing t word)
after_look role word = role

abbrev pub with_stripe : Lead → Lead
with_stripe l = record { readers = l.readers; held = l.held + 8 }

abbrev pub less_stripe : Lead → Lead
less_stripe l = record { readers = l.readers; held = l.held - 8 }

abbrev pub Sat : Type 0 → Type 0 → Type 0
Sat S O = Me (Option (History S O)) (View S O)

abbrev pub At : Type 0 → Type 0 → Type 0
At S O = Step (Option (History S O))

module _ {S O : Type 0} where
  abbrev pub posed : View S O → Role → List (Entry O) → View S O
  posed v role seen = record { role = role; base = v.base; seen = seen; older = v.older }

  -- a reader wins its turn and the version in its slot, or it loses the turn
  abbrev pub tried : At S O → Sat S O → ℕ → Sat S O → Type 0
  tried st m word m' = (t : Tries) (base : S) → m.0.role ≡ Reader t → m.0.base ≡ Some base
      → (word ≡ 0 → (journal : List (Entry O)) × IsPrefix m.0.seen journal × (m' ≡ (posed m.0 (Reader (with_turn t)) journal, (st.word, Some (history base journal)) ∷ m.1)))
      × (word ≢ 0 → (m' ≡ (posed m.0 (Reader (losing t word)) m.0.seen, m.1)) × (word ≢ t.number))

  abbrev pub returned : At S O → Sat S O → ℕ → Sat S O → Type 0
  returned st m word m' = (t : Tries) → m.0.role ≡ Reader t → m' ≡ (posed m.0 (Reader (without_turn t)) m.0.seen, rest m.1)

  abbrev pub looked : At S O → Sat S O → ℕ → Sat S O → Type 0
  looked st m word m' = (m' ≡ (posed m.0 (after_look m.0.role word) m.0.seen, m.1)) × All (λ list. IsPrefix list m.0.seen) m.0.older

  -- the writer wins the next stripe's turn, or nothing changes
  abbrev pub claimed : At S O → Sat S O → ℕ → Sat S O → Type 0
  claimed st m word m' = (l : Lead) (base : S) → m.0.role ≡ Writer l → m.0.base ≡ Some base
      → (word ≡ 0 → m' ≡ (posed m.0 (Writer (with_stripe l)) m.0.seen, (st.word, Some (history base m.0.seen)) ∷ m.1))
      × (word ≢ 0 → m' ≡ m)

  -- the writer gives the last stripe's turn back, with the version that it holds for it
  abbrev pub handed : At S O → Sat S O → ℕ → Sat S O → Type 0
  handed st m word m' = (l : Lead) (base : S) (journal : List (Entry O)) → m.0.role ≡ Writer l → m.1 ≡ (st.word, Some (history base journal)) ∷ rest m.1
      → m' ≡ (posed m.0 (Writer (less_stripe l)) journal, rest m.1)
