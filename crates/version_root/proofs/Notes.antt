-- The steps that touch no word: a note is split off a seat or joined into one, and a reader is made.
use Rattle.std.proofs.Common.{◌≡◌, ◌≢◌, ℕ, zero, suc, ◌+◌, ◌<◌, ◌⊎◌, true, false, eqb, List, [], ◌∷◌, ◌++◌, length, get_or, set, Option, refl, sym, ◌∙◌, ap, subst, inl, inr, ⊎_elim, arith, eq-eqb, ne_eqb, length-set}
use mathlib.Core.Logic.{dite}
use mathlib.Core.Option.{some, some-injective, some-ne-none}
use native.Mathlib.Decide.{ℕ_discrete}
use prog.Atomic.{either}
use lib.ListN.{get_elem?}
use Rattle.atomic_table.specs.Table.{State, Splits, Joins}
use Rattle.atomic_table.proofs.Lists.{at_set, set_else, set_again, at_longer}
use Rattle.versions.specs.declared.batch.Entry.{Entry}
use Rattle.version_root.specs.declared.view.View.{View}
use Rattle.version_root.specs.declared.view.Lead.{Lead}
use Rattle.version_root.specs.declared.view.Role.{Role}
use Rattle.version_root.specs.declared.view.Role.TheVariants.{Spent, Notice, Reader, Writer}
use Rattle.versions.specs.History.{History}
use Rattle.versions.specs.Prefix.{IsPrefix, longer}
use Rattle.version_root.specs.Root.{HasTurn, Knows, WriterFits, Fits, Ruled, notice_of, spent_view, informed, enlisting, enlisted, seen_after, Listens, with_reader, readers_of}
use Rattle.versions.proofs.Prefixes.{prefix_refl, longer_prefix, both_older}
use Rattle.version_root.proofs.Keeps.{set_at, one_at, reviewed}

module _ {A : Type 0} where
  pub at_snoc_place : (l : List A) (a b : A) (j : ℕ) → get_elem? (l ++ a ∷ []) j ≡ some b → (get_elem? l j ≡ some b) ⊎ ((j ≡ length l) × (a ≡ b))
  at_snoc_place [] a b zero e = inr (refl, some-injective a b e)
  at_snoc_place [] a b (suc j) e = absurd (some-ne-none b (sym e))
  at_snoc_place (x ∷ xs) a b zero e = inl e
  at_snoc_place (x ∷ xs) a b (suc j) e = ⊎_elim inl (λ t. inr (ap suc t.0, t.1)) (at_snoc_place xs a b j e)

abbrev pub Root : Type 0 → Type 0 → Type 0
Root S O = State (Option (History S O)) (View S O)

module _ {S O : Type 0} (base : S) where
  informed_fits : (owner : ℕ → ℕ) (journal : List (Entry O)) (lead : Lead) (words : List ℕ) (id : ℕ) (v w : View S O) (role : Role) → Listens role
      → Fits owner base journal lead words id v role → Knows base journal w
      → Fits owner base journal lead words id (record { role = role; base = v.base; seen = seen_after role v.seen w.seen; older = v.seen ∷ w.seen ∷ [] }) role
  informed_fits owner journal lead words id v w Spent listens f k = tt
  informed_fits owner journal lead words id v w Notice listens f k = absurd listens
  informed_fits owner journal lead words id v w (Reader tries) listens f k =
      let p = longer_prefix v.seen w.seen journal f.0.seen k.seen in let fits = f.1 in (
        record { base_is = f.0.base_is; seen = p.0; older = both_older v.seen w.seen (longer v.seen w.seen) p.1 p.2 },
        record {
          not_below = fits.not_below;
          not_above = fits.not_above;
          own = fits.own;
          turn = λ has. let e : true ≡ false = sym has ∙ listens in cc;
          lost = fits.lost;
        },
      )
  informed_fits owner journal lead words id v w (Writer mine) listens f k =
      (record { base_is = f.0.base_is; seen = f.0.seen; older = both_older v.seen w.seen v.seen (prefix_refl v.seen) (subst (λ l. IsPrefix w.seen l) (sym f.1.seen_is) k.seen) }, f.1)

module _ {S O : Type 0} {readers : ℕ} (base : S) where
  knows_of : (s : Root S O) (r : Ruled base readers s) (j : ℕ) (v : View S O) (role : Role) → role ≢ Spent → Fits r.owner base r.journal r.lead s.words j v role → Knows base r.journal v
  knows_of s r j v Spent live f = absurd (live refl)
  knows_of s r j v Notice live f = f
  knows_of s r j v (Reader tries) live f = f.0
  knows_of s r j v (Writer lead) live f = f.0

  -- a notice joins the seats
  noticed : (s : Root S O) (r : Ruled base readers s) (w : View S O) → Knows base r.journal w → Ruled base readers (record { words = s.words; homes = s.homes; views = s.views ++ record w { role = Notice } ∷ [] })
  noticed s r w knows = record {
    owner = r.owner;
    journal = r.journal;
    lead = r.lead;
    striped = r.striped;
    some_stripe = r.some_stripe;
    deep = r.deep;
    led = (r.led.0, at_longer s.views _ (r.owner 1) r.led.0 r.led.1, r.led.2);
    each_seat = λ j u e. ⊎_elim (λ t. r.each_seat j u t)
        (λ t. subst (λ (z : View S O). Fits r.owner base r.journal r.lead s.words j z z.role) t.1 (record { base_is = knows.base_is; seen = knows.seen; older = knows.older }))
        (at_snoc_place s.views _ u j e);
    each_stripe = λ k h st. let old = r.each_stripe k h st in record {
      free = old.free;
      taken = λ ne. let was = old.taken ne in (was.0, at_longer s.views _ (r.owner (get_or s.words k 0)) was.0 was.1, was.2);
    };
  }

  -- kind 1
  pub tells : (id : ℕ) (v : View S O) → v.role ≢ Spent → Splits (Ruled base readers) id v v (notice_of v)
  tells id v live s r at =
      let knows = knows_of s r id v v.role live (r.each_seat id v at) in
      subst (λ (views : List (View S O)). Ruled base readers (record { words = s.words; homes = s.homes; views = views ++ notice_of v ∷ [] })) (sym (set_again s.views id v at))
      (noticed s r (notice_of v) (record { base_is = knows.base_is; seen = knows.seen; older = λ k d h. absurd (omega arith) }))

  -- kind 2
  pub joins : (id : ℕ) (v : View S O) (other : ℕ) (w : View S O) → Listens v.role → w.role ≡ Notice → Joins (Ruled base readers) id v other w (informed v w) spent_view
  joins id v other w listens note s r at apart at' =
      let there : get_elem? s.views other ≡ some w = sym (set_else s.views id other (informed v w) apart) ∙ at' in
      let told : Knows base r.journal w = subst (Fits r.owner base r.journal r.lead s.words other w) note (r.each_seat other w there) in
      let first = reviewed base s r id v (informed v w) at (λ k m h. h) (λ h. h) (informed_fits base r.owner r.journal r.lead s.words id v w v.role listens (r.each_seat id v at) told) in
      reviewed base (record { words = s.words; homes = s.homes; views = set s.views id (informed v w) }) first other w spent_view at'
      (λ k m h. absurd (subst (HasTurn (length s.words) k m) note h))
      (λ h. absurd (let e : Notice ≡ Writer first.lead = sym note ∙ h in cc))
      tt

-- the owner of each number, where the seat `last` has the number `new`
abbrev owner_with : (ℕ → ℕ) → ℕ → ℕ → ℕ → ℕ
owner_with owner new last m = either (eqb m new) last (owner m)

owner_old : (owner : ℕ → ℕ) (new last m : ℕ) → m ≢ new → owner_with owner new last m ≡ owner m
owner_old owner new last m ne = ap (λ b. either b last (owner m)) (ne_eqb m new ne)

owner_new : (owner : ℕ → ℕ) (new last : ℕ) → owner_with owner new last new ≡ last
owner_new owner new last = ap (λ b. either b last (owner new)) (eq-eqb new new refl)

abbrev more : Lead → Lead
more lead = record { readers = lead.readers + 1; held = lead.held }

module _ {S O : Type 0} {readers : ℕ} (base : S) (s : Root S O) (r : Ruled base readers s) (id : ℕ) (v : View S O) (mine : Lead) (is : v.role ≡ Writer mine) (at : get_elem? s.views id ≡ some v) where
  abbrev new : ℕ
  new = mine.readers + 2

  abbrev owner' : ℕ → ℕ
  owner' = owner_with r.owner new (length s.views)

  abbrev left : View S O
  left = record { role = Writer (more mine); base = v.base; seen = v.seen; older = v.older }

  abbrev right : View S O
  right = record { role = Reader (record { number = new; lost = 0; found = 0; has_turn = false }); base = v.base; seen = v.seen; older = [] }

  abbrev views' : List (View S O)
  views' = set s.views id left ++ right ∷ []

  fits : Knows base r.journal v × WriterFits r.owner r.journal r.lead s.words id v.seen mine
  fits = subst (Fits r.owner base r.journal r.lead s.words id v) is (r.each_seat id v at)

  one_is_old : owner' 1 ≡ r.owner 1
  one_is_old = owner_old r.owner new (length s.views) 1 (λ e. absurd (omega arith))

  below : (j k m : ℕ) (u : View S O) (role : Role) → Fits r.owner base r.journal r.lead s.words j u role → HasTurn (length s.words) k m role → m < new
  below j k m u Spent f h = absurd h
  below j k m u Notice f h = absurd h
  below j k m u (Reader tries) f h = let above = f.1.not_above in let same = ap (λ (l : Lead). l.readers) fits.1.lead_is in let e = h.1 in omega arith
  below j k m u (Writer lead) f h = let e = h.0 in omega arith

  old_fits : (j : ℕ) (u : View S O) (role : Role) → j ≢ id → Fits r.owner base r.journal r.lead s.words j u role → Fits owner' base r.journal (more mine) s.words j u role
  old_fits j u Spent apart f = tt
  old_fits j u Notice apart f = f
  old_fits j u (Reader tries) apart f =
      let above = f.1.not_above in let same = ap (λ (l : Lead). l.readers) fits.1.lead_is in (
        f.0,
        record {
          not_below = f.1.not_below;
          not_above = omega arith;
          own = owner_old r.owner new (length s.views) tries.number (λ e. absurd (omega arith)) ∙ f.1.own;
          turn = f.1.turn;
          lost = f.1.lost;
        },
      )
  old_fits j u (Writer lead) apart f = absurd (apart (sym f.1.own ∙ fits.1.own))

  enlists_at : Ruled base readers (record { words = s.words; homes = s.homes; views = views' })
  enlists_at = record {
    owner = owner';
    journal = r.journal;
    lead = more mine;
    striped = r.striped;
    some_stripe = r.some_stripe;
    deep = r.deep;
    led = (left, at_longer (set s.views id left) (right ∷ []) (owner' 1) left (ap (get_elem? (set s.views id left)) (one_is_old ∙ fits.1.own) ∙ set_at s.views id left v at), refl);
    each_seat = λ j u e. ⊎_elim
        (λ t. ⊎_elim
        (λ t. subst (λ (z : ℕ × View S O). Fits owner' base r.journal (more mine) s.words z.0 z.1 z.1.role) (λ x. (sym t.0 x, t.1 x)) (
          record { base_is = fits.0.base_is; seen = fits.0.seen; older = fits.0.older },
          record {
            own = one_is_old ∙ fits.1.own;
            lead_is = refl;
            seen_is = fits.1.seen_is;
            within = fits.1.within;
            turns = fits.1.turns;
          },
        ))
        (λ t. old_fits j u u.role t.0 (r.each_seat j u t.1))
        (at_set s.views id j left u t))
        (λ t. subst (λ (z : ℕ × View S O). Fits owner' base r.journal (more mine) s.words z.0 z.1 z.1.role) (λ x. (sym (t.0 ∙ length-set s.views id left) x, t.1 x)) (
          record { base_is = fits.0.base_is; seen = fits.0.seen; older = λ k d h. absurd (omega arith) },
          record {
            not_below = omega arith;
            not_above = omega arith;
            own = owner_new r.owner new (length s.views);
            turn = λ has. let e : false ≡ true = has in cc;
            lost = λ h. absurd (omega arith);
          },
        ))
        (at_snoc_place (set s.views id left) right u j e);
    each_stripe = λ k h st. let old = r.each_stripe k h st in record {
      free = old.free;
      taken = λ ne. let was = old.taken ne in
          let word : ℕ = get_or s.words k 0 in
          let low = below (r.owner word) k word was.0 was.0.role (r.each_seat (r.owner word) was.0 was.1) was.2 in
          let same : owner' word ≡ r.owner word = owner_old r.owner new (length s.views) word (λ e. absurd (omega arith)) in
          dite (ℕ_discrete (r.owner word) id)
          (λ e. (
            left,
            at_longer (set s.views id left) (right ∷ []) (owner' word) left (ap (get_elem? (set s.views id left)) (same ∙ e) ∙ set_at s.views id left v at),
            subst (HasTurn (length s.words) k word) is (subst (λ (u : View S O). HasTurn (length s.words) k word u.role) (one_at s.views id was.0 v (sym (ap (get_elem? s.views) e) ∙ was.1) at) was.2),
          ))
          (λ ne'. (was.0, at_longer (set s.views id left) (right ∷ []) (owner' word) was.0 (ap (get_elem? (set s.views id left)) same ∙ set_else s.views id (r.owner word) left ne' ∙ was.1), was.2));
    };
  }

-- kind 8
pub enlists : {S O : Type 0} {readers : ℕ} (base : S) (id : ℕ) (v : View S O) (mine : Lead) → v.role ≡ Writer mine → Splits (Ruled base readers) id v (enlisting v) (enlisted v)
enlists {S} {O} {readers} base id v mine is s r at =
    let P : Role → Type 0 = λ role. Ruled base readers (record {
      words = s.words;
      homes = s.homes;
      views = set s.views id (record { role = with_reader role; base = v.base; seen = v.seen; older = v.older })
          ++ record { role = Reader (record { number = readers_of role + 2; lost = 0; found = 0; has_turn = false }); base = v.base; seen = v.seen; older = [] } ∷ [];
    }) in
    subst P (sym is) (enlists_at base s r id v mine is at)
