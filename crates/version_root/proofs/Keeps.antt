-- What a change of one seat's view, with or without its stripe, leaves of the rule.
use Rattle.std.proofs.Common.{◌≡◌, ◌≢◌, ℕ, zero, suc, ◌*◌, ◌/◌, ◌%◌, ◌-◌, ◌<◌, ◌≤◌, List, [], ◌∷◌, length, get_or, set, Option, Some, refl, sym, ◌∙◌, ap, subst, ⊎_elim, arith, length-set, get_or-set_other}
use mathlib.Core.Logic.{dite}
use mathlib.Core.Option.{some, some-injective, some-ne-none}
use native.Mathlib.Decide.{ℕ_discrete}
use lib.ListN.{get_elem?}
use Rattle.atomic_table.specs.Table.{State}
use Rattle.atomic_table.proofs.Lists.{at_set, set_else}
use Rattle.versions.specs.declared.batch.Entry.{Entry}
use Rattle.version_root.specs.declared.view.View.{View}
use Rattle.version_root.specs.declared.view.Lead.{Lead}
use Rattle.version_root.specs.declared.view.Role.{Role}
use Rattle.version_root.specs.declared.view.Role.TheVariants.{Spent, Notice, Reader, Writer}
use Rattle.versions.specs.History.{History, history}
use Rattle.versions.specs.Prefix.{IsPrefix}
use Rattle.version_root.specs.Root.{IsStripe, own_stripe, HasTurn, Knows, ReaderFits, WriterFits, Fits, StripeFits, Ruled}
use Rattle.versions.proofs.Prefixes.{prefix_trans}

module _ {A : Type 0} where
  pub set_at : (l : List A) (i : ℕ) (a b : A) → get_elem? l i ≡ some b → get_elem? (set l i a) i ≡ some a
  set_at [] i a b e = absurd (some-ne-none b (sym e))
  set_at (x ∷ xs) zero a b e = refl
  set_at (x ∷ xs) (suc i) a b e = set_at xs i a b e

  pub one_at : (l : List A) (i : ℕ) (a b : A) → get_elem? l i ≡ some a → get_elem? l i ≡ some b → a ≡ b
  one_at l i a b e f = some-injective a b (sym e ∙ f)

rest_within : (n by : ℕ) → 0 < by → n % by < by
rest_within n by h = omega arith

pub stripe_within : (words number : ℕ) → 8 ≤ words → own_stripe words number < words
stripe_within words number h = let stripes : 0 < words / 8 = omega arith in let rest = rest_within (number - 2) (words / 8) stripes in omega arith

eighth : (n : ℕ) → IsStripe (8 * n)
eighth n = omega arith

pub stripe_is : (words number : ℕ) → IsStripe (own_stripe words number)
stripe_is words number = eighth ((number - 2) % (words / 8))

module _ {S O : Type 0} (base : S) where
  knows_on : (journal journal' : List (Entry O)) (v : View S O) → IsPrefix journal journal' → Knows base journal v → Knows base journal' v
  knows_on journal journal' v grows k = record { base_is = k.base_is; seen = prefix_trans k.seen grows; older = k.older }

module _ {S O : Type 0} {readers : ℕ} (base : S) where
  -- a stripe's word and slot change, and with them the view of one seat
  module _ (s : State (Option (History S O)) (View S O)) (r : Ruled base readers s) (id i n : ℕ) (home : mathlib.Core.Option.Option (Option (History S O))) (v w : View S O) (journal' : List (Entry O)) (lead' : Lead)
      (grows : IsPrefix r.journal journal')
      (settled : (k : ℕ) → k < length s.words → IsStripe k → get_or s.words k 0 ≢ 1 → journal' ≡ r.journal)
      (mine : get_or s.words i 0 ≢ 0 → r.owner (get_or s.words i 0) ≡ id)
      (readers_kept : lead'.readers ≡ r.lead.readers)
      (lead_kept : r.owner 1 ≢ id → (lead' ≡ r.lead) × (journal' ≡ r.journal)) where
    abbrev words' : List ℕ
    words' = set s.words i n

    others : (j : ℕ) (u : View S O) → j ≢ id → (role : Role) → Fits r.owner base r.journal r.lead s.words j u role → Fits r.owner base journal' lead' words' j u role
    others j u else Spent f = tt
    others j u else Notice f = knows_on base r.journal journal' u grows f
    others j u else (Reader tries) f =
        let fits : ReaderFits r.owner r.journal r.lead s.words j u.seen tries = f.1 in
        let k : ℕ = own_stripe (length s.words) tries.number in (
          knows_on base r.journal journal' u grows f.0,
          record {
            not_below = fits.not_below;
            not_above = let same = readers_kept in let above = fits.not_above in omega arith;
            own = fits.own;
            turn = λ has. let t = fits.turn has in let low = fits.not_below in
                let other : k ≢ i = λ e. let there : get_or s.words i 0 ≡ tries.number = ap (λ x. get_or s.words x 0) (sym e) ∙ t.0 in
                else (sym fits.own ∙ ap r.owner (sym there) ∙ mine (λ none. let z : tries.number ≡ 0 = sym there ∙ none in omega arith)) in (
                  subst (λ len. get_or words' (own_stripe len tries.number) 0 ≡ tries.number) (sym (length-set s.words i n)) (get_or-set_other s.words i k n 0 other ∙ t.0),
                  t.1 ∙ sym (settled k (stripe_within (length s.words) tries.number r.some_stripe) (stripe_is (length s.words) tries.number) (λ one. let z : tries.number ≡ 1 = sym t.0 ∙ one in omega arith)),
                );
            lost = fits.lost;
          },
        )
    others j u else (Writer lead) f =
        let fits : WriterFits r.owner r.journal r.lead s.words j u.seen lead = f.1 in
        let kept = lead_kept (λ e. else (sym fits.own ∙ e)) in (
          knows_on base r.journal journal' u grows f.0,
          record {
            own = fits.own;
            lead_is = fits.lead_is ∙ sym kept.0;
            seen_is = fits.seen_is ∙ sym kept.1;
            within = subst (λ len. lead.held ≤ len) (sym (length-set s.words i n)) fits.within;
            turns = λ k h st.
                let other : k ≢ i = λ e. let there : get_or s.words i 0 ≡ 1 = ap (λ x. get_or s.words x 0) (sym e) ∙ fits.turns k h st in
                else (sym fits.own ∙ ap r.owner (sym there) ∙ mine (λ none. let z : 1 ≡ 0 = sym there ∙ none in omega arith)) in
                get_or-set_other s.words i k n 0 other ∙ fits.turns k h st;
          },
        )

    another_stripe : (turns : (k m : ℕ) → k ≢ i → IsStripe k → HasTurn (length s.words) k m v.role → HasTurn (length s.words) k m w.role) → get_elem? s.views id ≡ some v
        → (k : ℕ) → k < length s.words → IsStripe k → k ≢ i → StripeFits r.owner base journal' lead' words' (set s.homes i home) (set s.views id w) k
    another_stripe turns at k h st other =
        let same : get_or words' k 0 ≡ get_or s.words k 0 = get_or-set_other s.words i k n 0 other in
        let old = r.each_stripe k h st in record {
          free = λ e. let none : get_or s.words k 0 ≡ 0 = sym same ∙ e in
              set_else s.homes i k home other ∙ old.free none
              ∙ ap (λ j. some (some (Some (history base j)))) (sym (settled k h st (λ one. let z : 0 ≡ 1 = sym none ∙ one in omega arith)));
          taken = λ ne. let was = old.taken (λ e. ne (same ∙ e)) in
              subst (λ x. (u : View S O) × (get_elem? (set s.views id w) (r.owner x) ≡ some u) × HasTurn (length words') k x u.role) (sym same)
              (subst (λ len. (u : View S O) × (get_elem? (set s.views id w) (r.owner (get_or s.words k 0)) ≡ some u) × HasTurn len k (get_or s.words k 0) u.role) (sym (length-set s.words i n))
              (dite (ℕ_discrete (r.owner (get_or s.words k 0)) id)
              (λ e. (
                w,
                ap (get_elem? (set s.views id w)) e ∙ set_at s.views id w v at,
                turns k (get_or s.words k 0) other st (subst (λ (u : View S O). HasTurn (length s.words) k (get_or s.words k 0) u.role) (one_at s.views id was.0 v (sym (ap (get_elem? s.views) e) ∙ was.1) at) was.2),
              ))
              (λ ne'. (was.0, set_else s.views id (r.owner (get_or s.words k 0)) w ne' ∙ was.1, was.2))));
        }

    pub placed : get_elem? s.views id ≡ some v
        → (turns : (k m : ℕ) → k ≢ i → IsStripe k → HasTurn (length s.words) k m v.role → HasTurn (length s.words) k m w.role)
        → (leads : r.owner 1 ≡ id → w.role ≡ Writer lead')
        → (fits : Fits r.owner base journal' lead' words' id w w.role)
        → (stripe : StripeFits r.owner base journal' lead' words' (set s.homes i home) (set s.views id w) i)
        → Ruled base readers (record { words = words'; homes = set s.homes i home; views = set s.views id w })
    placed at turns leads fits stripe = record {
      owner = r.owner;
      journal = journal';
      lead = lead';
      striped = length-set s.words i n ∙ r.striped;
      some_stripe = subst (λ len. 8 ≤ len) (sym (length-set s.words i n)) r.some_stripe;
      deep = length-set s.homes i home ∙ r.deep ∙ sym (length-set s.words i n);
      led = dite (ℕ_discrete (r.owner 1) id)
          (λ e. (w, ap (get_elem? (set s.views id w)) e ∙ set_at s.views id w v at, leads e))
          (λ ne. (r.led.0, set_else s.views id (r.owner 1) w ne ∙ r.led.1, r.led.2 ∙ ap Writer (sym (lead_kept ne).0)));
      each_seat = λ j u e. ⊎_elim
          (λ t. subst (λ (z : ℕ × View S O). Fits r.owner base journal' lead' words' z.0 z.1 z.1.role) (λ x. (sym t.0 x, t.1 x)) fits)
          (λ t. others j u t.0 u.role (r.each_seat j u t.1))
          (at_set s.views id j w u e);
      each_stripe = λ k h st. dite (ℕ_discrete k i)
          (λ e. subst (λ x. StripeFits r.owner base journal' lead' words' (set s.homes i home) (set s.views id w) x) (sym e) stripe)
          (λ ne. another_stripe turns at k (subst (λ len. k < len) (length-set s.words i n) h) st ne);
    }

  -- the view of one seat changes, and no word
  module _ (s : State (Option (History S O)) (View S O)) (r : Ruled base readers s) (id : ℕ) (v w : View S O) (at : get_elem? s.views id ≡ some v) where
    pub reviewed : (turns : (k m : ℕ) → HasTurn (length s.words) k m v.role → HasTurn (length s.words) k m w.role)
        → (leads : v.role ≡ Writer r.lead → w.role ≡ Writer r.lead)
        → Fits r.owner base r.journal r.lead s.words id w w.role
        → Ruled base readers (record { words = s.words; homes = s.homes; views = set s.views id w })
    reviewed turns leads fits = record {
      owner = r.owner;
      journal = r.journal;
      lead = r.lead;
      striped = r.striped;
      some_stripe = r.some_stripe;
      deep = r.deep;
      led = dite (ℕ_discrete (r.owner 1) id)
          (λ e. (
            w,
            ap (get_elem? (set s.views id w)) e ∙ set_at s.views id w v at,
            leads (ap (λ (u : View S O). u.role) (one_at s.views id v r.led.0 at (sym (ap (get_elem? s.views) e) ∙ r.led.1)) ∙ r.led.2),
          ))
          (λ ne. (r.led.0, set_else s.views id (r.owner 1) w ne ∙ r.led.1, r.led.2));
      each_seat = λ j u e. ⊎_elim
          (λ t. subst (λ (z : ℕ × View S O). Fits r.owner base r.journal r.lead s.words z.0 z.1 z.1.role) (λ x. (sym t.0 x, t.1 x)) fits)
          (λ t. r.each_seat j u t.1)
          (at_set s.views id j w u e);
      each_stripe = λ k h st. record {
        free = (r.each_stripe k h st).free;
        taken = λ ne. let was = (r.each_stripe k h st).taken ne in dite (ℕ_discrete (r.owner (get_or s.words k 0)) id)
            (λ e. (
              w,
              ap (get_elem? (set s.views id w)) e ∙ set_at s.views id w v at,
              turns k (get_or s.words k 0) (subst (λ (u : View S O). HasTurn (length s.words) k (get_or s.words k 0) u.role) (one_at s.views id was.0 v (sym (ap (get_elem? s.views) e) ∙ was.1) at) was.2),
            ))
            (λ ne'. (was.0, set_else s.views id (r.owner (get_or s.words k 0)) w ne' ∙ was.1, was.2));
      };
    }
