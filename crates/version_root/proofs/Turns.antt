-- The steps of a reader on its stripe's word.
use Rattle.std.proofs.Common.{◌≡◌, ◌≢◌, ℕ, ◌<◌, true, false, eqb, List, [], ◌∷◌, length, get_or, set, Option, Some, refl, sym, ◌∙◌, ap, subst, arith, eq-eqb, ne_eqb, length-set, get_or-set_same}
use Rattle.std.proofs.lemmas.List.{set-get_or}
use Rattle.std.specs.Prelude.{if◌then◌else◌}
use mathlib.Core.Logic.{dite}
use mathlib.Core.Option.{none, some}
use native.Mathlib.Decide.{ℕ_discrete}
use prog.Atomic.{either}
use lib.ListN.{get_elem?}
use Rattle.atomic_table.specs.Table.{step, keeps, takes, gives, stepped, Allows, rest}
use Rattle.atomic_table.proofs.Lists.{set_here, set_again}
use Rattle.version_root.specs.declared.view.View.{View}
use Rattle.version_root.specs.declared.view.Tries.{Tries}
use Rattle.version_root.specs.declared.view.Role.{Role}
use Rattle.version_root.specs.declared.view.Role.TheVariants.{Reader, Writer}
use Rattle.versions.specs.History.{History, history}
use Rattle.version_root.specs.Root.{IsStripe, own_stripe, HasTurn, Knows, ReaderFits, Fits, Ruled}
use Rattle.version_root.specs.Steps.{with_turn, without_turn, losing, after_look, posed, Sat, tried, returned, looked}
use Rattle.versions.proofs.Prefixes.{prefix_refl, prefixes_trans}
use Rattle.version_root.proofs.Keeps.{set_at, one_at, stripe_within, stripe_is, placed, reviewed}
use Rattle.version_root.proofs.Notes.{Root}

pub some_same : {A : Type 0} (x y : A) → Some x ≡ Some y → x ≡ y
some_same x y e = cc

module _ {S O : Type 0} {readers : ℕ} (base : S) (s : Root S O) (r : Ruled base readers s) (id : ℕ) (v : View S O) (t : Tries) (is : v.role ≡ Reader t) (at : get_elem? s.views id ≡ some v) where
  pub reader_fits : Knows base r.journal v × ReaderFits r.owner r.journal r.lead s.words id v.seen t
  reader_fits = subst (Fits r.owner base r.journal r.lead s.words id v) is (r.each_seat id v at)

  pub not_leading : r.owner 1 ≢ id
  not_leading e =
      let same : v ≡ r.led.0 = one_at s.views id v r.led.0 at (sym (ap (get_elem? s.views) e) ∙ r.led.1) in
      let both : Reader t ≡ Writer r.lead = sym is ∙ ap (λ (u : View S O). u.role) same ∙ r.led.2 in cc

  -- the turn is won
  module _ (i : ℕ) (own : i ≡ own_stripe (length s.words) t.number) (free : get_or s.words i 0 ≡ 0) (idle : t.has_turn ≡ false) where
    within : i < length s.words
    within = subst (λ k. k < length s.words) (sym own) (stripe_within (length s.words) t.number r.some_stripe)

    abbrev won : View S O
    won = posed v (Reader (with_turn t)) r.journal

    word_is : get_or (set s.words i t.number) i 0 ≡ t.number
    word_is = get_or-set_same s.words i t.number 0 within

    own' : i ≡ own_stripe (length (set s.words i t.number)) t.number
    own' = own ∙ ap (λ len. own_stripe len t.number) (sym (length-set s.words i t.number))

    pub wins : Ruled base readers (record { words = set s.words i t.number; homes = set s.homes i none; views = set s.views id won })
    wins =
        let fits = reader_fits in
        placed base s r id i t.number none v won r.journal r.lead (prefix_refl r.journal) (λ k h st ne. refl) (λ ne. absurd (ne free)) refl (λ ne. (refl, refl)) at
        (λ k m ne st h. let e : true ≡ false = sym (subst (HasTurn (length s.words) k m) is h).0 ∙ idle in absurd (let z : ⊥ = cc in z))
        (λ e. absurd (not_leading e)) (
          record { base_is = fits.0.base_is; seen = prefix_refl r.journal; older = prefixes_trans fits.0.seen v.older fits.0.older },
          record {
            not_below = fits.1.not_below;
            not_above = fits.1.not_above;
            own = fits.1.own;
            turn = λ has. (ap (λ k. get_or (set s.words i t.number) k 0) (sym own') ∙ word_is, refl);
            lost = fits.1.lost;
          },
        )
        (record {
          free = λ e. let low = fits.1.not_below in let z : t.number ≡ 0 = sym word_is ∙ e in absurd (omega arith);
          taken = λ ne. (
            won,
            ap (λ m. get_elem? (set s.views id won) (r.owner m)) word_is ∙ ap (get_elem? (set s.views id won)) fits.1.own ∙ set_at s.views id won v at,
            (refl, sym word_is, own'),
          );
        })

  -- the turn is given back
  module _ (i : ℕ) (own : i ≡ own_stripe (length s.words) t.number) (has : t.has_turn ≡ true) where
    abbrev rested : View S O
    rested = posed v (Reader (without_turn t)) v.seen

    abbrev back : mathlib.Core.Option.Option (Option (History S O))
    back = some (Some (history base v.seen))

    inside : i < length s.words
    inside = subst (λ k. k < length s.words) (sym own) (stripe_within (length s.words) t.number r.some_stripe)

    held_is : get_or s.words i 0 ≡ t.number
    held_is = ap (λ k. get_or s.words k 0) own ∙ (reader_fits.1.turn has).0

    pub rests : Ruled base readers (record { words = set s.words i 0; homes = set s.homes i back; views = set s.views id rested })
    rests =
        let fits = reader_fits in
        placed base s r id i 0 back v rested r.journal r.lead (prefix_refl r.journal) (λ k h st ne. refl) (λ ne. ap r.owner held_is ∙ fits.1.own) refl (λ ne. (refl, refl)) at
        (λ k m ne st h. absurd (ne ((subst (HasTurn (length s.words) k m) is h).2 ∙ sym own)))
        (λ e. absurd (not_leading e)) (
          record { base_is = fits.0.base_is; seen = fits.0.seen; older = fits.0.older },
          record {
            not_below = fits.1.not_below;
            not_above = fits.1.not_above;
            own = fits.1.own;
            turn = λ e. let z : false ≡ true = e in cc;
            lost = fits.1.lost;
          },
        )
        (record {
          free = λ e. set_here s.homes i back (subst (λ len. i < len) (sym r.deep) inside) ∙ ap (λ seen. some (some (Some (history base seen)))) ((fits.1.turn has).1);
          taken = λ ne. absurd (ne (get_or-set_same s.words i 0 0 inside));
        })

  -- the reader's view counts a lost turn
  pub loses : (word : ℕ) → t.has_turn ≡ false → word ≢ 0 → word ≢ t.number → Ruled base readers (record { words = s.words; homes = s.homes; views = set s.views id (posed v (Reader (losing t word)) v.seen) })
  loses word idle not_free not_mine =
      let fits = reader_fits in
      reviewed base s r id v (posed v (Reader (losing t word)) v.seen) at
      (λ k m h. let e : true ≡ false = sym (subst (HasTurn (length s.words) k m) is h).0 ∙ idle in absurd (let z : ⊥ = cc in z))
      (λ e. let z : Reader t ≡ Writer r.lead = sym is ∙ e in absurd (let z : ⊥ = cc in z)) (
        record { base_is = fits.0.base_is; seen = fits.0.seen; older = fits.0.older },
        record {
          not_below = fits.1.not_below;
          not_above = fits.1.not_above;
          own = fits.1.own;
          turn = λ e. let z : true ≡ false = sym e ∙ idle in absurd (let z : ⊥ = cc in z);
          lost = λ h. (not_free, not_mine);
        },
      )

  -- a reader without a turn finds another number than its own
  pub not_own : (i : ℕ) → i < length s.words → IsStripe i → t.has_turn ≡ false → get_or s.words i 0 ≢ t.number
  not_own i h st idle e =
      let fits = reader_fits in let low = fits.1.not_below in
      let was = (r.each_stripe i h st).taken (λ none. let z : t.number ≡ 0 = sym e ∙ none in omega arith) in
      let same : was.0 ≡ v = one_at s.views id was.0 v (ap (get_elem? s.views) (sym (ap r.owner e ∙ fits.1.own)) ∙ was.1) at in
      let turn : HasTurn (length s.words) i (get_or s.words i 0) (Reader t) = subst (HasTurn (length s.words) i (get_or s.words i 0)) (ap (λ (u : View S O). u.role) same ∙ is) was.2 in
      let z : true ≡ false = sym turn.0 ∙ idle in absurd (let z : ⊥ = cc in z)

module _ {S O : Type 0} {readers : ℕ} (base : S) (slots id : ℕ) (me : Sat S O) (t : Tries) (is : me.0.role ≡ Reader t) where
  -- kinds 3 and 4
  pub tries : (i : ℕ) → i ≡ own_stripe slots t.number → t.has_turn ≡ false
      → Allows (Ruled base readers) slots id me i (λ n. either (eqb n 0) t.number n) (tried (step slots i 0 t.number none) me)
  tries i own idle s r deep at small =
      let len : slots ≡ length s.words = sym deep ∙ r.deep in
      let own' : i ≡ own_stripe (length s.words) t.number = own ∙ ap (λ l. own_stripe l t.number) len in
      let inside : i < length s.words = subst (λ k. k < length s.words) (sym own') (stripe_within (length s.words) t.number r.some_stripe) in
      let stripe : IsStripe i = subst IsStripe (sym own') (stripe_is (length s.words) t.number) in
      let x : ℕ = get_or s.words i 0 in
      let fits = reader_fits base s r id me.0 t is at in
      dite (ℕ_discrete x 0)
      (λ free. (
        posed me.0 (Reader (with_turn t)) r.journal,
        takes i (Some (history base r.journal)),
        (r.each_stripe i inside stripe).free free,
        subst (λ b. Ruled base readers (stepped s i (either b t.number x) id me.1 (posed me.0 (Reader (with_turn t)) r.journal) (takes i (Some (history base r.journal))))) (sym (eq-eqb x 0 free)) (wins base s r id me.0 t is at i own' free idle),
        λ t' b is' base_is.
            let e : Reader t ≡ Reader t' = sym is ∙ is' in
            let same : t ≡ t' = cc in
            let one : base ≡ b = some_same base b (sym fits.0.base_is ∙ base_is) in (
              (λ hit. (r.journal, fits.0.seen, λ k. (posed me.0 (Reader (with_turn (same k))) r.journal, (i, Some (history (one k) r.journal)) ∷ me.1))),
              λ miss. absurd (miss free),
            ),
      ))
      (λ taken.
      let mine = not_own base s r id me.0 t is at i inside stripe idle in (
        posed me.0 (Reader (losing t x)) me.0.seen,
        keeps,
        tt,
        subst (λ b. Ruled base readers (stepped s i (either b t.number x) id me.1 (posed me.0 (Reader (losing t x)) me.0.seen) keeps)) (sym (ne_eqb x 0 taken))
            (subst (λ (words : List ℕ). Ruled base readers (record { words = words; homes = s.homes; views = set s.views id (posed me.0 (Reader (losing t x)) me.0.seen) })) (sym (set-get_or s.words i 0)) (loses base s r id me.0 t is at x idle taken mine)),
        λ t' b is' base_is.
            let e : Reader t ≡ Reader t' = sym is ∙ is' in
            let same : t ≡ t' = cc in (
              (λ hit. absurd (taken hit)),
              λ miss. ((λ k. (posed me.0 (Reader (losing (same k) x)) me.0.seen, me.1)), λ own. mine (own ∙ ap (λ (u : Tries). u.number) (sym same))),
            ),
      ))

  -- kind 5
  pub returns : (b : S) (i : ℕ) (others : List (ℕ × Option (History S O))) → i ≡ own_stripe slots t.number → t.has_turn ≡ true → me.0.base ≡ Some b → me.1 ≡ (i, Some (history b me.0.seen)) ∷ others
      → Allows (Ruled base readers) slots id me i (λ _. 0) (λ _. returned (step slots i 0 0 none) me 0)
  returns b i others own has base_is carried s r deep at small =
      let len : slots ≡ length s.words = sym deep ∙ r.deep in
      let own' : i ≡ own_stripe (length s.words) t.number = own ∙ ap (λ l. own_stripe l t.number) len in
      let fits = reader_fits base s r id me.0 t is at in
      let one : b ≡ base = some_same b base (sym base_is ∙ fits.0.base_is) in
      let w : View S O = posed me.0 (Reader (without_turn t)) me.0.seen in
      let front : me.1 ≡ (i, Some (history base me.0.seen)) ∷ others = carried ∙ ap (λ z. (i, Some (history z me.0.seen)) ∷ others) one in (
        w,
        gives,
        tt,
        subst (λ (c : List (ℕ × Option (History S O))). Ruled base readers (stepped s i 0 id c w gives)) (sym front) (rests base s r id me.0 t is at i own' has),
        λ t' is'. let e : Reader t ≡ Reader t' = sym is ∙ is' in let same : t ≡ t' = cc in
            λ k. (posed me.0 (Reader (without_turn (same k))) me.0.seen, rest me.1),
      )

  -- kind 4 of a reader, at its own stripe
  pub looks : (i : ℕ) → i ≡ own_stripe slots t.number → t.has_turn ≡ false → Allows (Ruled base readers) slots id me i (λ n. n) (looked (step slots i 0 0 none) me)
  looks i own idle s r deep at small =
      let len : slots ≡ length s.words = sym deep ∙ r.deep in
      let own' : i ≡ own_stripe (length s.words) t.number = own ∙ ap (λ l. own_stripe l t.number) len in
      let inside : i < length s.words = subst (λ k. k < length s.words) (sym own') (stripe_within (length s.words) t.number r.some_stripe) in
      let stripe : IsStripe i = subst IsStripe (sym own') (stripe_is (length s.words) t.number) in
      let x : ℕ = get_or s.words i 0 in
      let fits = reader_fits base s r id me.0 t is at in
      let P : List ℕ × Role → Type 0 = λ z. Ruled base readers (record { words = z.0; homes = s.homes; views = set s.views id (posed me.0 z.1 me.0.seen) }) in
      let role_is : (b : _) → eqb x 0 ≡ b → after_look me.0.role x ≡ Reader (if b then t else losing t x) = λ b e. ap (λ role. after_look role x) is ∙ ap (λ c. Reader (if c then t else losing t x)) e in (
        posed me.0 (after_look me.0.role x) me.0.seen,
        keeps,
        tt,
        subst (λ words. P (words, after_look me.0.role x)) (sym (set-get_or s.words i 0))
            (dite (ℕ_discrete x 0)
            (λ free. subst (λ role. P (s.words, role)) (is ∙ sym (role_is true (eq-eqb x 0 free)))
            (subst (λ (views : List (View S O)). Ruled base readers (record { words = s.words; homes = s.homes; views = views })) (sym (set_again s.views id me.0 at)) r))
            (λ taken. subst (λ role. P (s.words, role)) (sym (role_is false (ne_eqb x 0 taken))) (loses base s r id me.0 t is at x idle taken (not_own base s r id me.0 t is at i inside stripe idle)))),
        (refl, fits.0.older),
      )

  pub tries_as : (number i : ℕ) → t.number ≡ number → i ≡ own_stripe slots number → t.has_turn ≡ false
      → Allows (Ruled base readers) slots id me i (λ n. either (eqb n 0) number n) (tried (step slots i 0 number none) me)
  tries_as number i e own idle =
      let P : ℕ → Type 0 = λ m. Allows (Ruled base readers) slots id me i (λ n. either (eqb n 0) m n) (tried (step slots i 0 m none) me) in
      subst P e (tries i (own ∙ ap (own_stripe slots) (sym e)) idle)

  pub returns_as : (number i : ℕ) → t.number ≡ number → i ≡ own_stripe slots number → t.has_turn ≡ true → me.0.base ≡ Some base → me.1 ≡ (i, Some (history base me.0.seen)) ∷ []
      → Allows (Ruled base readers) slots id me i (λ _. 0) (λ _. returned (step slots i 0 0 none) me 0)
  returns_as number i e own has base_is carried = returns base i [] (own ∙ ap (own_stripe slots) (sym e)) has base_is carried

-- where a list is one item, it is that item and the rest
pub front_is : {S : Type 0} (xs : List (ℕ × S)) (x : ℕ × S) → xs ≡ x ∷ [] → xs ≡ x ∷ rest xs
front_is xs x e = subst (λ ys. ys ≡ x ∷ rest ys) (sym e) refl

module _ {S O : Type 0} {readers : ℕ} (base : S) (slots id : ℕ) (me : Sat S O) (t : Tries) (is : me.0.role ≡ Reader t) where
  pub looks_as : (number i : ℕ) → t.number ≡ number → i ≡ own_stripe slots number → t.has_turn ≡ false → Allows (Ruled base readers) slots id me i (λ n. n) (looked (step slots i 0 0 none) me)
  looks_as number i e own idle = looks base slots id me t is i (own ∙ ap (own_stripe slots) (sym e)) idle
