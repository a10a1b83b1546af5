-- A seat after it took in a notice's, and looked at a word.
use Rattle.std.proofs.Common.{◌≡◌, ◌≤◌, ℕ, Bool, true, false, List, [], ◌∷◌, Option, refl, sym, ◌∙◌, ap, subst, arith}
use Rattle.std.specs.Prelude.{All, ◌==◌, if◌then◌else◌}
use Rattle.atomic_table.specs.Seated.{TableId}
use Rattle.version_root.specs.declared.view.View.{View}
use Rattle.version_root.specs.declared.view.Tries.{Tries}
use Rattle.version_root.specs.declared.view.Role.{Role}
use Rattle.version_root.specs.declared.view.Role.TheVariants.{Spent, Reader, Writer}
use Rattle.versions.specs.History.{History}
use Rattle.versions.specs.Prefix.{IsPrefix}
use Rattle.version_root.specs.Root.{Listens, informed, seen_after}
use Rattle.version_root.specs.Steps.{losing, after_look, posed, Sat, looked}
use Rattle.version_root.specs.Seats.{IsReader, IsWriterSeat, IsTeller, lost_of}
use Rattle.version_root.proofs.Publishing.{Place}

look_number : (b : Bool) (t : Tries) (word : ℕ) → (if b then t else losing t word).number ≡ t.number
look_number true t word = refl
look_number false t word = refl

look_turn : (b : Bool) (t : Tries) (word : ℕ) → (if b then t else losing t word).has_turn ≡ t.has_turn
look_turn true t word = refl
look_turn false t word = refl

look_lost : (b : Bool) (t : Tries) (word : ℕ) → t.lost ≤ (if b then t else losing t word).lost
look_lost true t word = omega arith
look_lost false t word = omega arith

pub first_older : {A : Type 0} (P : A → Type 0) (x y : A) → All P (x ∷ y ∷ []) → P x × P y
first_older P x y all = (all 0 x (omega arith), all 1 x (omega arith))

module _ {S O : Type 0} (z : TableId) (base : S) (seat : Place S O) where
  pub reader_listens : (number stripe : ℕ) → IsReader z base number stripe seat → Listens seat.me.0.role
  reader_listens number stripe q = subst Listens (sym q.tries.1) q.tries.3

  pub reader_tells : (number stripe : ℕ) → IsReader z base number stripe seat → IsTeller z base seat
  reader_tells number stripe q = record { striped = q.striped; table_is = q.table_is; base_is = q.base_is; live = λ e. let both : Spent ≡ Reader q.tries.0 = sym e ∙ q.tries.1 in absurd (let f : ⊥ = cc in f) }

  pub writer_tells : (held : ℕ) (carried : List (ℕ × Option (History S O))) → IsWriterSeat z base held carried seat → IsTeller z base seat
  writer_tells held carried q = record { striped = q.striped; table_is = q.table_is; base_is = q.base_is; live = λ e. let both : Spent ≡ Writer q.lead.0 = sym e ∙ q.lead.1 in absurd (let f : ⊥ = cc in f) }

  module _ (seat' : Place S O) (w : View S O) (table : seat'.table_id ≡ seat.table_id) (after : seat'.me ≡ (informed seat.me.0 w, seat.me.1)) where
    pub reader_informed : (number stripe : ℕ) → IsReader z base number stripe seat → IsReader z base number stripe seat'
    reader_informed number stripe q = record {
      striped = q.striped;
      table_is = table ∙ q.table_is;
      base_is = ap (λ (m : Sat S O). m.0.base) after ∙ q.base_is;
      carried_is = ap (λ (m : Sat S O). m.1) after ∙ q.carried_is;
      tries = (q.tries.0, ap (λ (m : Sat S O). m.0.role) after ∙ q.tries.1, q.tries.2, q.tries.3);
      own = q.own;
    }

    pub writer_informed : (held : ℕ) (carried : List (ℕ × Option (History S O))) → IsWriterSeat z base held carried seat → IsWriterSeat z base held carried seat'
    writer_informed held carried q = record {
      striped = q.striped;
      table_is = table ∙ q.table_is;
      base_is = ap (λ (m : Sat S O). m.0.base) after ∙ q.base_is;
      carried_is = ap (λ (m : Sat S O). m.1) after ∙ q.carried_is;
      lead = (q.lead.0, ap (λ (m : Sat S O). m.0.role) after ∙ q.lead.1, q.lead.2);
    }

  module _ (seat' : Place S O) (word : ℕ) (table : seat'.table_id ≡ seat.table_id) (after : seat'.me ≡ (posed seat.me.0 (after_look seat.me.0.role word) seat.me.0.seen, seat.me.1)) where
    pub reader_looked : (number stripe : ℕ) → IsReader z base number stripe seat → IsReader z base number stripe seat'
    reader_looked number stripe q = record {
      striped = q.striped;
      table_is = table ∙ q.table_is;
      base_is = ap (λ (m : Sat S O). m.0.base) after ∙ q.base_is;
      carried_is = ap (λ (m : Sat S O). m.1) after ∙ q.carried_is;
      tries = (
        (if word == 0 then q.tries.0 else losing q.tries.0 word),
        ap (λ (m : Sat S O). m.0.role) after ∙ ap (λ role. after_look role word) q.tries.1,
        look_number (word == 0) q.tries.0 word ∙ q.tries.2,
        look_turn (word == 0) q.tries.0 word ∙ q.tries.3,
      );
      own = q.own;
    }

    pub reader_lost : (number stripe : ℕ) → IsReader z base number stripe seat → lost_of seat.me.0.role ≤ lost_of seat'.me.0.role
    reader_lost number stripe q =
        let before : lost_of seat.me.0.role ≡ q.tries.0.lost = ap lost_of q.tries.1 in
        let now : lost_of seat'.me.0.role ≡ (if word == 0 then q.tries.0 else losing q.tries.0 word).lost = ap (λ (m : Sat S O). lost_of m.0.role) after ∙ ap (λ role. lost_of (after_look role word)) q.tries.1 in
        let rises = look_lost (word == 0) q.tries.0 word in omega arith

    pub writer_looked : (held : ℕ) (carried : List (ℕ × Option (History S O))) → IsWriterSeat z base held carried seat → IsWriterSeat z base held carried seat'
    writer_looked held carried q = record {
      striped = q.striped;
      table_is = table ∙ q.table_is;
      base_is = ap (λ (m : Sat S O). m.0.base) after ∙ q.base_is;
      carried_is = ap (λ (m : Sat S O). m.1) after ∙ q.carried_is;
      lead = (q.lead.0, ap (λ (m : Sat S O). m.0.role) after ∙ ap (λ role. after_look role word) q.lead.1, q.lead.2);
    }

-- a notice that is joined in leaves the lost turns as they are
pub lost_kept : {S O : Type 0} (m m' : Sat S O) (w : View S O) (n : ℕ) → m' ≡ (informed m.0 w, m.1) → lost_of m'.0.role ≤ n → lost_of m.0.role ≤ n
lost_kept {S} {O} m m' w n joined h = subst (λ k. k ≤ n) (ap (λ (x : Sat S O). lost_of x.0.role) joined) h

-- what was joined in is a beginning of what the seat has seen
pub told : {S O : Type 0} (m m' m'' : Sat S O) (w : View S O) (role : Role) → m' ≡ (informed m.0 w, m.1) → m'' ≡ (posed m'.0 role m'.0.seen, m'.1) → All (λ list. IsPrefix list m'.0.seen) m'.0.older
    → IsPrefix m.0.seen m''.0.seen × IsPrefix w.seen m''.0.seen
told {S} {O} m m' m'' w role joined looked older =
    let now : m''.0.seen ≡ seen_after m.0.role m.0.seen w.seen = ap (λ (x : Sat S O). x.0.seen) looked ∙ ap (λ (x : Sat S O). x.0.seen) joined in
    subst (λ seen. IsPrefix m.0.seen seen × IsPrefix w.seen seen) (sym now)
    (first_older (λ list. IsPrefix list (seen_after m.0.role m.0.seen w.seen)) m.0.seen w.seen (subst (λ (x : Sat S O). All (λ list. IsPrefix list x.0.seen) x.0.older) joined older))
