-- A root's table at the start.
use Rattle.std.proofs.Common.{◌≡◌, ℕ, zero, suc, ◌+◌, ◌*◌, ◌<◌, ◌≤◌, List, [], ◌∷◌, length, map, get_or, replicate, Option, Some, refl, sym, ◌∙◌, ap, subst, arith}
use Rattle.std.specs.Prelude.{None, min, slice_get}
use mathlib.Core.Option.{some, some-injective, some-ne-none}
use lib.ListN.{get_elem?}
use Rattle.atomic_table.specs.Table.{opening}
use Rattle.atomic_table.specs.Seated.{TableId}
use Rattle.version_root.specs.declared.view.View.{View}
use Rattle.version_root.specs.declared.view.Lead.{Lead}
use Rattle.version_root.specs.declared.view.Role.TheVariants.{Writer}
use Rattle.versions.specs.History.{History, history}
use Rattle.version_root.specs.Root.{IsStripe, Fits, Ruled, opening_view, with_reader, readers_of, enlisting}
use Rattle.version_root.specs.Steps.{Sat}
use Rattle.version_root.specs.Seats.{IsFirstWriter}
use Rattle.versions.proofs.Prefixes.{prefix_refl}
use Rattle.version_root.proofs.Publishing.{Place}
use Rattle.version_root.proofs.Turns.{some_same}

module _ {A : Type 0} where
  length_mapped : {B : Type 0} (f : A → B) (xs : List A) → length (map f xs) ≡ length xs
  length_mapped f [] = refl
  length_mapped f (x ∷ xs) = ap suc (length_mapped f xs)

  at_slot : (xs : List A) (i : ℕ) (y : A) → slice_get xs i ≡ Some y → get_elem? (map some xs) i ≡ some (some y)
  at_slot [] i y e = absurd (let z : None ≡ Some y = e in cc)
  at_slot (x ∷ xs) zero y e = ap (λ z. some (some z)) (some_same x y e)
  at_slot (x ∷ xs) (suc i) y e = at_slot xs i y e

zeros : (n i : ℕ) → get_or (replicate {A = ℕ} n 0) i 0 ≡ 0
zeros zero i = refl
zeros (suc n) zero = refl
zeros (suc n) (suc i) = zeros n i

count_zeros : (n : ℕ) → length (replicate {A = ℕ} n 0) ≡ n
count_zeros zero = refl
count_zeros (suc n) = ap suc (count_zeros n)

abbrev nobody : Lead
nobody = record { readers = 0; held = 0 }

module _ {S O : Type 0} (base : S) where
  first_fits : (words : List ℕ) (j : ℕ) (v : View S O) → get_elem? (opening_view base ∷ []) j ≡ some v → Fits (λ number. 0) base [] nobody words j v v.role
  first_fits words zero v e = subst (λ (u : View S O). Fits (λ number. 0) base [] nobody words 0 u u.role) (some-injective (opening_view base) v e)
      (record { base_is = refl; seen = prefix_refl []; older = λ k d h. absurd (omega arith) }, record { own = refl; lead_is = refl; seen_is = refl; within = omega arith; turns = λ i h. absurd (omega arith) })
  first_fits words (suc j) v e = absurd (some-ne-none v (sym e))

  pub opens : (readers n : ℕ) (words : List ℕ) (slots : List (Option (History S O))) → n ≡ 8 * min readers 8 → 8 ≤ n → words ≡ replicate n 0 → length slots ≡ n
      → ((i : ℕ) → i < n → IsStripe i → slice_get slots i ≡ Some (Some (history base [])))
      → Ruled base readers (opening words slots (opening_view base))
  opens readers n words slots few some_stripe words_are count all =
      let wide : length words ≡ n = ap length words_are ∙ count_zeros n in
      record {
        owner = λ number. 0;
        journal = [];
        lead = nobody;
        striped = wide ∙ few;
        some_stripe = omega arith;
        deep = length_mapped some slots ∙ count ∙ sym wide;
        led = (opening_view base, refl, refl);
        each_seat = first_fits words;
        each_stripe = λ i h st. record {
          free = λ e. at_slot slots i (Some (history base [])) (all i (omega arith) st);
          taken = λ ne. absurd (ne (ap (λ ws. get_or ws i 0) words_are ∙ zeros n i));
        };
      }

  -- the writer's seat after a reader's was split off
  pub enlisted_writer : (z : TableId) (made : ℕ) (seat seat' : Place S O) → IsFirstWriter z base made seat → seat'.table_id ≡ seat.table_id → seat'.me ≡ (enlisting seat.me.0, seat.me.1) → IsFirstWriter z base (made + 1) seat'
  enlisted_writer z made seat seat' first table after =
      let q = first.seat_is in
      let l : Lead = q.lead.0 in
      let role : seat'.me.0.role ≡ Writer (record { readers = l.readers + 1; held = l.held }) = ap (λ (m : Sat S O). m.0.role) after ∙ ap with_reader q.lead.1 in
      let count : l.readers ≡ made = sym (ap readers_of q.lead.1) ∙ first.readers_is in
      record {
        seat_is = record {
          striped = q.striped;
          table_is = table ∙ q.table_is;
          base_is = ap (λ (m : Sat S O). m.0.base) after ∙ q.base_is;
          carried_is = ap (λ (m : Sat S O). m.1) after ∙ q.carried_is;
          lead = (record { readers = l.readers + 1; held = l.held }, role, q.lead.2);
        };
        readers_is = ap readers_of role ∙ ap (λ n. n + 1) count;
        seen_is = ap (λ (m : Sat S O). m.0.seen) after ∙ first.seen_is;
      }
