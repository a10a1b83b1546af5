-- What the writer carries while it has turns.
use Rattle.std.proofs.Common.{◌≡◌, ℕ, ◌+◌, ◌*◌, ◌/◌, List, [], ◌∷◌, ◌++◌, length, Option, Some, refl, sym, ◌∙◌, ap, subst, arith, add-one, length-append}
use Rattle.std.proofs.lemmas.List.{get_or_append_left}
use Rattle.std.proofs.Math.Seq.{get_or-append_seam}
use Rattle.std.specs.Prelude.{All}
use mathlib.Core.Option.{none}
use Rattle.atomic_table.specs.Table.{step, rest}
use Rattle.atomic_table.specs.Seated.{TableId}
use Rattle.atomic_table.specs.declared.shared.Seat.{Seat}
use Rattle.versions.specs.declared.batch.Entry.{Entry}
use Rattle.version_root.specs.declared.view.View.{View}
use Rattle.version_root.specs.declared.view.Lead.{Lead}
use Rattle.version_root.specs.declared.view.Role.TheVariants.{Writer}
use Rattle.versions.specs.History.{History, history}
use Rattle.version_root.specs.Root.{IsStripe}
use Rattle.version_root.specs.Steps.{less_stripe, posed, Sat, handed}
use Rattle.version_root.specs.Seats.{IsWriterSeat, laid}

-- the stripe i in front of those below it
pub laid_front : {X : Type 0} (n i : ℕ) (x : X) → i + 8 ≡ n → IsStripe i → laid (n / 8) x ≡ (i, x) ∷ laid (i / 8) x
laid_front n i x e stripe =
    let count : n / 8 ≡ i / 8 + 1 = omega arith in
    let place : 8 * (i / 8) ≡ i = omega arith in
    ap (λ m. laid m x) (count ∙ add-one (i / 8)) ∙ ap (λ j. (j, x) ∷ laid (i / 8) x) place

pub all_split : {A : Type 0} (P : A → Type 0) (xs : List A) (y : A) → All P (xs ++ y ∷ []) → All P xs × P y
all_split P xs y all = (
  (λ k d h. subst P (get_or_append_left xs (y ∷ []) d k h) (all k d (omega (arith, length-append xs (y ∷ []))))),
  subst P (get_or-append_seam xs y [] y) (all (length xs) y (omega (arith, length-append xs (y ∷ [])))),
)

pub front_of : {S : Type 0} (xs ys : List (ℕ × S)) (x : ℕ × S) → xs ≡ x ∷ ys → xs ≡ x ∷ rest xs
front_of xs ys x e = e ∙ ap (λ zs. x ∷ zs) (sym (ap rest e))

abbrev pub Place : Type 0 → Type 0 → Type 0
Place S O = Seat (Option (History S O)) (View S O)

module _ {S O : Type 0} (z : TableId) (base : S) where
  -- the seat after it gave the stripe i back with this journal
  pub handed_seat : (seat seat' : Place S O) (held i : ℕ) (journal : List (Entry O)) → i + 8 ≡ held → IsStripe i → IsWriterSeat z base held seat.me.1 seat → seat.me.1 ≡ laid (held / 8) (Some (history base journal))
      → seat'.table_id ≡ seat.table_id → handed (step z.slots i 0 0 none) seat.me 0 seat'.me
      → IsWriterSeat z base i seat'.me.1 seat' × (seat'.me.1 ≡ laid (i / 8) (Some (history base journal))) × (seat'.me.0.seen ≡ journal)
  handed_seat seat seat' held i journal last stripe q carried table then =
      let front : seat.me.1 ≡ (i, Some (history base journal)) ∷ laid (i / 8) (Some (history base journal)) = carried ∙ laid_front held i (Some (history base journal)) last stripe in
      let l : Lead = q.lead.0 in
      let after : seat'.me ≡ (posed seat.me.0 (Writer (less_stripe l)) journal, rest seat.me.1) = then l base journal q.lead.1 (front_of seat.me.1 _ _ front) in (
        record {
          striped = q.striped;
          table_is = table ∙ q.table_is;
          base_is = ap (λ (m : Sat S O). m.0.base) after ∙ q.base_is;
          carried_is = refl;
          lead = (less_stripe l, ap (λ (m : Sat S O). m.0.role) after, let e = q.lead.2 in omega arith);
        },
        ap (λ (m : Sat S O). m.1) after ∙ ap rest front,
        ap (λ (m : Sat S O). m.0.seen) after,
      )

  -- the seat after a write into the slot that it took last
  pub written_seat : (seat seat' : Place S O) (held : ℕ) (carried carried' : List (ℕ × Option (History S O))) → IsWriterSeat z base held carried seat
      → seat'.table_id ≡ seat.table_id → seat'.me ≡ (seat.me.0, carried') → IsWriterSeat z base held seat'.me.1 seat'
  written_seat seat seat' held carried carried' q table after = record {
    striped = q.striped;
    table_is = table ∙ q.table_is;
    base_is = ap (λ (m : Sat S O). m.0.base) after ∙ q.base_is;
    carried_is = refl;
    lead = (q.lead.0, ap (λ (m : Sat S O). m.0.role) after ∙ q.lead.1, q.lead.2);
  }
