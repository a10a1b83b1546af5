-- The steps of the writer on the stripes' words.
use Rattle.std.proofs.Common.{◌≡◌, ℕ, ◌+◌, ◌-◌, ◌<◌, ◌≤◌, ◌⊎◌, eqb, List, ◌∷◌, length, get_or, set, Option, Some, refl, sym, ◌∙◌, ap, subst, inl, inr, ⊎_elim, arith, eq-eqb, ne_eqb, length-set, get_or-set_same, get_or-set_other}
use Rattle.std.proofs.lemmas.List.{set-get_or}
use mathlib.Core.Logic.{dite}
use mathlib.Core.Option.{none, some}
use native.Mathlib.Decide.{ℕ_discrete}
use prog.Atomic.{either}
use lib.ListN.{get_elem?}
use Rattle.atomic_table.specs.Table.{step, keeps, takes, gives, stepped, Allows, rest}
use Rattle.atomic_table.proofs.Lists.{set_here, set_again}
use Rattle.versions.specs.declared.batch.Entry.{Entry}
use Rattle.version_root.specs.declared.view.View.{View}
use Rattle.version_root.specs.declared.view.Lead.{Lead}
use Rattle.version_root.specs.declared.view.Role.TheVariants.{Writer}
use Rattle.versions.specs.History.{History, history}
use Rattle.versions.specs.Prefix.{IsPrefix}
use Rattle.version_root.specs.Root.{IsStripe, HasTurn, Knows, WriterFits, Fits, Ruled}
use Rattle.version_root.specs.Steps.{with_stripe, less_stripe, after_look, posed, Sat, claimed, handed, looked}
use Rattle.versions.proofs.Prefixes.{head_is, prefix_refl, prefixes_trans}
use Rattle.version_root.proofs.Keeps.{set_at, placed}
use Rattle.version_root.proofs.Notes.{Root}
use Rattle.version_root.proofs.Turns.{some_same}

module _ {S O : Type 0} {readers : ℕ} (base : S) (s : Root S O) (r : Ruled base readers s) (id : ℕ) (v : View S O) (l : Lead) (is : v.role ≡ Writer l) (at : get_elem? s.views id ≡ some v) where
  pub writer_fits : Knows base r.journal v × WriterFits r.owner r.journal r.lead s.words id v.seen l
  writer_fits = subst (Fits r.owner base r.journal r.lead s.words id v) is (r.each_seat id v at)

  -- the next stripe's turn is won
  module _ (i : ℕ) (next : i ≡ l.held) (stripe : IsStripe i) (inside : i < length s.words) (free : get_or s.words i 0 ≡ 0) where
    abbrev ahead : View S O
    ahead = posed v (Writer (with_stripe l)) v.seen

    one : get_or (set s.words i 1) i 0 ≡ 1
    one = get_or-set_same s.words i 1 0 inside

    pub claim : Ruled base readers (record { words = set s.words i 1; homes = set s.homes i none; views = set s.views id ahead })
    claim =
        let fits = writer_fits in
        placed base s r id i 1 none v ahead r.journal (with_stripe l) (prefix_refl r.journal) (λ k h st ne. refl) (λ ne. absurd (ne free)) (ap (λ (x : Lead). x.readers) fits.1.lead_is) (λ ne. absurd (ne fits.1.own)) at
        (λ k m ne st h. let t = subst (HasTurn (length s.words) k m) is h in (t.0, let low = t.1 in omega arith))
        (λ e. refl) (
          record { base_is = fits.0.base_is; seen = fits.0.seen; older = fits.0.older },
          record {
            own = fits.1.own;
            lead_is = refl;
            seen_is = fits.1.seen_is;
            within = subst (λ len. l.held + 8 ≤ len) (sym (length-set s.words i 1)) (let whole = r.striped in omega arith);
            turns = λ k h st. dite (ℕ_discrete k i)
                (λ e. ap (λ j. get_or (set s.words i 1) j 0) e ∙ one)
                (λ ne. get_or-set_other s.words i k 1 0 ne ∙ fits.1.turns k (omega arith) st);
          },
        )
        (record {
          free = λ e. let z : 1 ≡ 0 = sym one ∙ e in absurd (omega arith);
          taken = λ ne. (
            ahead,
            ap (λ m. get_elem? (set s.views id ahead) (r.owner m)) one ∙ ap (get_elem? (set s.views id ahead)) fits.1.own ∙ set_at s.views id ahead v at,
            (sym one, omega arith),
          );
        })

  -- the last stripe's turn is given back with this journal
  module _ (i : ℕ) (last : i + 8 ≡ l.held) (stripe : IsStripe i) (journal : List (Entry O)) (grows : IsPrefix v.seen journal) (all : (journal ≡ v.seen) ⊎ (l.held ≡ length s.words)) where
    abbrev behind : View S O
    behind = posed v (Writer (less_stripe l)) journal

    abbrev back : mathlib.Core.Option.Option (Option (History S O))
    back = some (Some (history base journal))

    pub hand : Ruled base readers (record { words = set s.words i 0; homes = set s.homes i back; views = set s.views id behind })
    hand =
        let fits = writer_fits in
        let low = fits.1.within in
        let inside : i < length s.words = omega arith in
        let held_is : get_or s.words i 0 ≡ 1 = fits.1.turns i (omega arith) stripe in
        placed base s r id i 0 back v behind journal (less_stripe l)
        (subst (λ xs. IsPrefix xs journal) fits.1.seen_is grows)
        (λ k h st ne. ⊎_elim (λ same. same ∙ fits.1.seen_is) (λ full. absurd (ne (fits.1.turns k (omega arith) st))) all)
        (λ ne. ap r.owner held_is ∙ fits.1.own) (ap (λ (x : Lead). x.readers) fits.1.lead_is) (λ ne. absurd (ne fits.1.own)) at
        (λ k m ne st h. let t = subst (HasTurn (length s.words) k m) is h in (t.0, let less = t.1 in omega arith))
        (λ e. refl) (
          record { base_is = fits.0.base_is; seen = prefix_refl journal; older = prefixes_trans grows v.older fits.0.older },
          record {
            own = fits.1.own;
            lead_is = refl;
            seen_is = refl;
            within = subst (λ len. l.held - 8 ≤ len) (sym (length-set s.words i 0)) (omega arith);
            turns = λ k h st. get_or-set_other s.words i k 0 0 (λ e. absurd (omega arith)) ∙ fits.1.turns k (omega arith) st;
          },
        )
        (record {
          free = λ e. set_here s.homes i back (subst (λ len. i < len) (sym r.deep) inside);
          taken = λ ne. absurd (ne (get_or-set_same s.words i 0 0 inside));
        })

module _ {S O : Type 0} {readers : ℕ} (base : S) (slots id : ℕ) (me : Sat S O) (l : Lead) (is : me.0.role ≡ Writer l) where
  -- kinds 6 and 4
  pub claims : (i : ℕ) → i ≡ l.held → IsStripe i → i < slots → Allows (Ruled base readers) slots id me i (λ n. either (eqb n 0) 1 n) (claimed (step slots i 0 1 none) me)
  claims i next stripe h s r deep at small =
      let inside : i < length s.words = subst (λ len. i < len) (sym deep ∙ r.deep) h in
      let x : ℕ = get_or s.words i 0 in
      let fits = writer_fits base s r id me.0 l is at in
      let w : View S O = posed me.0 (Writer (with_stripe l)) me.0.seen in
      dite (ℕ_discrete x 0)
      (λ free. (
        w,
        takes i (Some (history base r.journal)),
        (r.each_stripe i inside stripe).free free,
        subst (λ b. Ruled base readers (stepped s i (either b 1 x) id me.1 w (takes i (Some (history base r.journal))))) (sym (eq-eqb x 0 free)) (claim base s r id me.0 l is at i next stripe inside free),
        λ l' b is' base_is.
            let e : Writer l ≡ Writer l' = sym is ∙ is' in
            let same : l ≡ l' = cc in
            let one : base ≡ b = some_same base b (sym fits.0.base_is ∙ base_is) in (
              (λ hit. λ k. (posed me.0 (Writer (with_stripe (same k))) me.0.seen, (i, Some (history (one k) (sym fits.1.seen_is k))) ∷ me.1)),
              λ miss. absurd (miss free),
            ),
      ))
      (λ taken. (
        me.0,
        keeps,
        tt,
        subst (λ b. Ruled base readers (stepped s i (either b 1 x) id me.1 me.0 keeps)) (sym (ne_eqb x 0 taken))
            (subst (λ (z : List ℕ × List (View S O)). Ruled base readers (record { words = z.0; homes = s.homes; views = z.1 })) (λ k. (sym (set-get_or s.words i 0) k, sym (set_again s.views id me.0 at) k)) r),
        λ l' b is' base_is. ((λ hit. absurd (taken hit)), λ miss. refl),
      ))

  -- kind 7
  pub hands : (b : S) (i : ℕ) (journal : List (Entry O)) (others : List (ℕ × Option (History S O))) → i + 8 ≡ l.held → IsStripe i → me.0.base ≡ Some b → me.1 ≡ (i, Some (history b journal)) ∷ others
      → IsPrefix me.0.seen journal → (journal ≡ me.0.seen) ⊎ (l.held ≡ slots)
      → Allows (Ruled base readers) slots id me i (λ _. 0) (λ _. handed (step slots i 0 0 none) me 0)
  hands b i journal others last stripe base_is carried grows all s r deep at small =
      let fits = writer_fits base s r id me.0 l is at in
      let one : b ≡ base = some_same b base (sym base_is ∙ fits.0.base_is) in
      let w : View S O = posed me.0 (Writer (less_stripe l)) journal in
      let front : me.1 ≡ (i, Some (history base journal)) ∷ others = carried ∙ ap (λ z. (i, Some (history z journal)) ∷ others) one in (
        w,
        gives,
        tt,
        subst (λ (c : List (ℕ × Option (History S O))). Ruled base readers (stepped s i 0 id c w gives)) (sym front)
            (hand base s r id me.0 l is at i last stripe journal grows (⊎_elim inl (λ full. inr (full ∙ sym deep ∙ r.deep)) all)),
        λ l' b' journal' is' carried'.
            let e : Writer l ≡ Writer l' = sym is ∙ is' in
            let same : l ≡ l' = cc in
            let heads : (i, Some (history b journal)) ∷ others ≡ (i, Some (history b' journal')) ∷ rest me.1 = sym carried ∙ carried' in
            let pair : (i, Some (history b journal)) ≡ (i, Some (history b' journal')) = head_is _ _ _ _ heads in
            let j : journal ≡ journal' = ap (λ (h : History S O). h.journal) (some_same _ _ (ap (λ (z : ℕ × Option (History S O)). z.1) pair)) in
            λ k. (posed me.0 (Writer (less_stripe (same k))) (j k), rest me.1),
      )

  -- kind 4 of the writer
  pub checks : (i : ℕ) → Allows (Ruled base readers) slots id me i (λ n. n) (looked (step slots i 0 0 none) me)
  checks i s r deep at small =
      let fits = writer_fits base s r id me.0 l is at in (
        me.0,
        keeps,
        tt,
        subst (λ (z : List ℕ × List (View S O)). Ruled base readers (record { words = z.0; homes = s.homes; views = z.1 })) (λ k. (sym (set-get_or s.words i 0) k, sym (set_again s.views id me.0 at) k)) r,
        (
          (λ k. (posed me.0 ((is ∙ sym (ap (λ role. after_look role (get_or s.words i 0)) is)) k) me.0.seen, me.1)),
          fits.0.older,
        ),
      )
