-- Rounds, one after another.
use Rattle.std.proofs.Common.{◌≡◌, ◌==◌, ℕ, zero, suc, ◌<◌, ◌≤◌, ◌+◌, List, [], ◌∷◌, ◌++◌, length, map, take, drop, get_or, inl, inr, refl, sym, ap, ◌∙◌, subst, ◌-◌, arith, append_assoc}
use Rattle.std.specs.Prelude.{All, Some, None, slice_get}
use Rattle.std.specs.List.{sum_by}
use Rattle.std.specs.List.Sorted.{IsNonDecreasingBy}
use Rattle.std.proofs.lemmas.Bool.Decides.{eqb_tells}
use Rattle.std.proofs.lemmas.List.{append-nil, map-append, length-append, get_or_default, get_or-take, length-take, take-append-drop}
use Rattle.std.proofs.lemmas.List.Sums.{sum_by-cons}
use Rattle.std.proofs.lemmas.List.Elements.{All-append, All-nil, filter-append}
use mathlib.Core.Logic.{dite}
use native.Mathlib.Decide.{dec_lt}
use Rattle.version_root.specs.Public.{Entry, History}
use Rattle.versions.proofs.Prefixes.{prefix_refl}
use Rattle.batch_store.specs.declared.submitted.Submitted.{Submitted}
use Rattle.batch_store.specs.Journal.{items_of, submitted_in, entry_of}
use Rattle.batch_store.specs.Keeping.{Keeping}
use Rattle.batch_store.specs.Calling.{Calling}
use Rattle.batch_store.specs.Round.{AreSame, HasAllOf, IsNewStore, IsLast, sent_by}
use Rattle.serve_text.specs.declared.record.Record.{Record}
use Rattle.serve_text.specs.Records.{batches_of, records_of, entries_of}
use Rattle.serve_text.specs.Histories.{AreInRounds, IsLawfulHistory}
use Rattle.serve_text.specs.Texts.{replies_text}
use Rattle.serve_text.proofs.Orders.{filter_yes, filter_no, none_of_key, front_at, back_at}
use Rattle.serve_text.proofs.Growing.{batches_of-nil, batches_of-append, batches_of_caller, batches_below, one_round_more, few, no_round_yet, replies_more}
use Rattle.serve_callers.proofs.Turns.{same_stores}
use Rattle.serve_rounds.specs.Rounds.{IsBetweenRounds, PlaysRound, HasServed}
use Rattle.serve_rounds.proofs.OneRound.{all_same}

module _ {O : Type 0} where
  own_again : (c : ℕ) (e : Entry O) → e.caller ≡ c → entry_of c (submitted_in e) ≡ e
  own_again c e own = ap (λ (n : ℕ). entry_of n (submitted_in e)) (sym own)

  -- a caller's entries are known from what they have of it
  entries_back : (c : ℕ) (es : List (Entry O)) → map (entry_of c) (map submitted_in (entries_of c es)) ≡ entries_of c es
  entries_back c [] = refl
  entries_back c (e ∷ es) =
      elim (eqb_tells e.caller c) [
        | inl q ↦
            let here : entries_of c (e ∷ es) ≡ e ∷ entries_of c es = filter_yes (λ (x : Entry O). x.caller == c) e es q.0 in
            ap (λ (l : List (Entry O)). map (entry_of c) (map submitted_in l)) here
            ∙ ap (λ (x : Entry O). x ∷ map (entry_of c) (map submitted_in (entries_of c es))) (own_again c e q.1)
            ∙ ap (λ (l : List (Entry O)). e ∷ l) (entries_back c es)
            ∙ sym here
        | inr q ↦
            let here : entries_of c (e ∷ es) ≡ entries_of c es = filter_no (λ (x : Entry O). x.caller == c) e es q.0 in
            ap (λ (l : List (Entry O)). map (entry_of c) (map submitted_in l)) here ∙ entries_back c es ∙ sym here
      ]

  items_are : (c : ℕ) (es : List (Entry O)) → items_of c es ≡ map submitted_in (entries_of c es)
  unfolding items_of
  items_are c es = refl

  same_entries : (c : ℕ) (xs ys : List (Entry O)) → map submitted_in (entries_of c xs) ≡ map submitted_in (entries_of c ys) → entries_of c xs ≡ entries_of c ys
  same_entries c xs ys e = sym (entries_back c xs) ∙ ap (map (entry_of c)) e ∙ entries_back c ys

module _ {O Q : Type 0} where
  -- a journal of all that callers have sent has each caller's batches in record order
  each_caller : {S : Type 0} (journal : List (Entry O)) (callers : List (Calling S O)) (records : List (Record O Q)) → HasAllOf journal callers
      → All (λ (r : Record O Q). r.caller < length callers) records
      → ((i : ℕ) (e : Calling S O) → i < length callers → (get_or callers i e).sent ≡ map submitted_in (batches_of (records_of i records)))
      → (e : Calling S O) (c : ℕ) → c < length callers → entries_of c journal ≡ entries_of c (batches_of records)
  each_caller journal callers records all below sent e c h =
      same_entries c journal (batches_of records)
      (sym (items_are c journal) ∙ all.each c e h ∙ sent c e h ∙ ap (map submitted_in) (sym (batches_of_caller c records)))

all_front : {X : Type 0} (P : X → Type 0) (xs ys : List X) → All P (xs ++ ys) → All P xs
all_front P xs ys all i d h = subst P (front_at xs ys i d h) (all i d (omega (arith, h, length-append xs ys)))

some : {A : Type 0} (xs : List A) → 0 < length xs → A
some [] h = absurd (omega (arith, h))
some (x ∷ xs) h = x

module _ {S O Q : Type 0} where
  each_entry : (journal : List (Entry O)) (callers : List (Calling S O)) (records : List (Record O Q)) → HasAllOf journal callers
      → All (λ (r : Record O Q). r.caller < length callers) records
      → ((i : ℕ) (e : Calling S O) → i < length callers → (get_or callers i e).sent ≡ map submitted_in (batches_of (records_of i records)))
      → (c : ℕ) → entries_of c journal ≡ entries_of c (batches_of records)
  each_entry journal callers records all below sent c =
      dite (dec_lt c (length callers))
      (λ h. each_caller journal callers records all below sent (some callers (omega (arith, h))) c h)
      (λ n. none_of_key (λ (e : Entry O). e.caller) (length callers) c journal (omega arith) all.below
      ∙ sym (none_of_key (λ (e : Entry O). e.caller) (length callers) c (batches_of records) (omega arith) (batches_below (length callers) records below)))

pub none_at : {X : Type 0} (xs : List X) → slice_get xs 0 ≡ None → xs ≡ []
none_at [] is = refl
none_at (x ∷ xs) is = absurd (let q : Some x ≡ None = is in cc)

pub first_at : {X : Type 0} (xs : List X) (x : X) → Some x ≡ slice_get xs 0 → (get_or xs 0 x ≡ x) × (0 < length xs)
first_at [] x is = absurd (let q : Some x ≡ None = is in cc)
first_at (y ∷ ys) x is = ((let q : Some x ≡ Some y = is in cc), omega arith)

module _ {S O Q : Type 0} (step : S → O → S) (answer : S → Q → List ℕ) where
  -- so many records are served, and the others are of later rounds
  pub record IsUnderWay (records left : List (Record O Q)) (before after : Keeping S O) (callers told : List (Calling S O)) (text : List ℕ) : Type 0 where
    pub done : List (Record O Q)
    pub both : records ≡ done ++ left
    pub served : HasServed step answer done before after callers told text
    pub later : All (λ (r : Record O Q). All (λ (q : Record O Q). r.round < q.round) left) done

  module _ (done round : List (Record O Q)) (k : ℕ) (earlier : All (λ (r : Record O Q). r.round < k) done) (here : All (λ (r : Record O Q). r.round ≡ k) round)
      (s s0 s2 : Keeping S O) (c c0 c2 : List (Calling S O)) (text longer : List ℕ) (below : All (λ (r : Record O Q). r.caller < length c) (done ++ round))
      (served : HasServed step answer done s s0 c c0 text) (played : PlaysRound step answer round s0 s2 c0 c2 text longer) where
    same_all : AreSame c c2
    same_all = all_same c c0 c2 served.same_callers played.same_callers

    sent_all : (i : ℕ) (e : Calling S O) → i < length c2 → (get_or c2 i e).sent ≡ map submitted_in (batches_of (records_of i (done ++ round)))
    sent_all i e h =
        played.sent i e h
        ∙ ap (λ (l : List (Submitted O)). l ++ map submitted_in (batches_of (records_of i round))) (served.sent i e (omega (arith, h, played.same_callers.count)))
        ∙ sym (map-append submitted_in (batches_of (records_of i done)) (batches_of (records_of i round)))
        ∙ ap (map submitted_in) (sym (batches_of-append (records_of i done) (records_of i round)))
        ∙ ap (λ (l : List (Record O Q)). map submitted_in (batches_of l)) (sym (filter-append (λ (r : Record O Q). r.caller == i) done round))

    each : (n : ℕ) → entries_of n s2.journal ≡ entries_of n (batches_of (done ++ round))
    each = each_entry s2.journal c2 (done ++ round) played.between.all (λ i d h. omega (arith, below i d h, same_all.count)) sent_all

    based : s0.base ≡ s.base
    based = served.same.base

    pub served_more : HasServed step answer (done ++ round) s s2 c c2 longer
    served_more = record {
      same = same_stores s s0 s2 served.same played.same;
      same_callers = same_all;
      between = played.between;
      sent = sent_all;
      reads = served.reads ++ played.reads;
      lawful = one_round_more done round k earlier here served.reads played.reads s0.journal s2.journal served.lawful played.begins each played.asked played.least played.most played.rise;
      text_is = played.text_is
          ∙ ap (λ (b : S). text ++ replies_text step answer b s2.journal played.reads) based
          ∙ ap (λ (l : List ℕ). l ++ replies_text step answer s.base s2.journal played.reads) served.text_is
          ∙ sym (replies_more step answer s.base s0.journal s2.journal served.reads played.reads played.begins
          (few done round k earlier here served.reads played.reads s0.journal s2.journal served.lawful played.begins each played.asked played.least played.most played.rise));
    }

  none_sent : (callers : List (Calling S O)) → ((i : ℕ) (e : Calling S O) → i < length callers → (get_or callers i e).sent ≡ []) → 0 ≡ sent_by callers
  none_sent [] none = refl
  none_sent (c ∷ callers) none =
      let rest : 0 ≡ sum_by (λ (x : Calling S O). length x.sent) callers = none_sent callers (λ i e h. none (suc i) e (omega (arith, h))) in
      let first : length c.sent ≡ 0 = ap length (none 0 c (omega arith)) in
      let both : length c.sent + sum_by (λ (x : Calling S O). length x.sent) callers ≡ 0 = omega (arith, rest, first) in
      sym (sum_by-cons (λ (x : Calling S O). length x.sent) c callers ∙ both)

  items_of-none : (i : ℕ) → items_of {O = O} i [] ≡ []
  unfolding items_of
  items_of-none i = refl

  -- before the first round
  pub not_begun : (base : S) (n : ℕ) (store : Keeping S O) (callers : List (Calling S O)) → IsNewStore base n store callers
      → HasServed {O = O} {Q = Q} step answer [] store store callers callers []
  not_begun base n store callers new = record {
    same = record { root = refl; base = refl; lanes = refl };
    same_callers = record { count = refl; each = λ i e h. record { number = refl; lane = refl; reader = record { root = refl; base = refl; number = refl } } };
    between = record {
      callers_are = new.callers_are;
      pending = new.pending;
      all = record {
        each = λ i e h. ap (items_of i) new.journal ∙ items_of-none i ∙ sym (new.fresh i e h).0;
        below = subst (λ (l : List (Entry O)). All (λ (x : Entry O). x.caller < length callers) l) (sym new.journal) (All-nil _);
      };
      count = ap length new.journal ∙ none_sent callers (λ i e h. (new.fresh i e h).0);
      seen = λ i e h. ap (λ r. r.seen) (new.fresh i e h).1 ∙ sym new.journal;
    };
    sent = λ i e h. (new.fresh i e h).0 ∙ ap (map submitted_in) (sym (batches_of-nil O Q));
    reads = [];
    lawful = subst (IsLawfulHistory [] []) (sym new.journal) (no_round_yet O Q);
    text_is = refl;
  }

  -- nothing is done yet
  pub way_begins : (records : List (Record O Q)) (store : Keeping S O) (callers : List (Calling S O)) → IsNewStore store.base (length callers) store callers
      → IsUnderWay records records store store callers callers []
  way_begins records store callers new =
      record { done = []; both = refl; served = not_begun store.base (length callers) store callers new; later = λ i d h. absurd (omega (arith, h)) }

  along : {X : Type 0} (n : X → ℕ) (xs ys : List X) → IsNonDecreasingBy n (xs ++ ys) → IsNonDecreasingBy n ys
  along n xs ys up i j d h inside =
      let at : (m : ℕ) → get_or (xs ++ ys) (length xs + m) d ≡ get_or ys m d = (λ m. back_at xs ys (length xs + m) d (omega arith) ∙ ap (λ (k : ℕ). get_or ys k d) (let q : length xs + m - length xs ≡ m = omega arith in q)) in
      let low = ap n (at i) in
      let high = ap n (at j) in
      omega (arith, up (length xs + i) (length xs + j) d (omega (arith, h)) (omega (arith, inside, length-append xs ys)), low, high)

  module _ (records left : List (Record O Q)) (before s0 : Keeping S O) (callers c0 : List (Calling S O)) (text : List ℕ) (lawful : AreInRounds (length callers) records)
      (way : IsUnderWay records left before s0 callers c0 text) where
    -- what is left is in rounds
    pub left_rises : IsNonDecreasingBy (λ (r : Record O Q). r.round) left
    left_rises = along (λ (r : Record O Q). r.round) way.done left (subst (IsNonDecreasingBy (λ (r : Record O Q). r.round)) way.both lawful.rounds_rise)

    all_below : All (λ (r : Record O Q). r.caller < length callers) (way.done ++ left)
    all_below = subst (All (λ (r : Record O Q). r.caller < length callers)) way.both lawful.callers_are

    pub left_below : All (λ (r : Record O Q). r.caller < length c0) left
    left_below = λ i d h.
        let at : get_or (way.done ++ left) (length way.done + i) d ≡ get_or left i d =
        back_at way.done left (length way.done + i) d (omega arith) ∙ ap (λ (k : ℕ). get_or left k d) (let q : length way.done + i - length way.done ≡ i = omega arith in q) in
        let inside : length way.done + i < length (way.done ++ left) = omega (arith, h, length-append way.done left) in
        omega (arith, all_below (length way.done + i) d inside, ap (λ (r : Record O Q). r.caller) at, way.served.same_callers.count)

    pub round_below : (n : ℕ) → All (λ (r : Record O Q). r.caller < length c0) (take n left)
    round_below n i d h =
        let inside : i < n = omega (arith, h, length-take n left) in
        omega (arith, left_below i d (omega (arith, h, length-take n left)), ap (λ (r : Record O Q). r.caller) (get_or-take n left i d inside))

    pub least_first : (first : Record O Q) → get_or left 0 first ≡ first → All (λ (r : Record O Q). first.round ≤ r.round) left
    least_first first is = λ i d h.
        let low = left_rises 0 i first (omega arith) h in
        let other : get_or left i first ≡ get_or left i d = get_or_default left i first d h in
        omega (arith, low, ap (λ (r : Record O Q). r.round) is, ap (λ (r : Record O Q). r.round) other)

    -- one round more
    pub way_goes_on : (first : Record O Q) (n : ℕ) (s2 : Keeping S O) (c2 : List (Calling S O)) (longer : List ℕ) → get_or left 0 first ≡ first → 0 < length left
        → All (λ (r : Record O Q). r.round ≡ first.round) (take n left) → All (λ (r : Record O Q). first.round < r.round) (drop n left)
        → PlaysRound step answer (take n left) s0 s2 c0 c2 text longer → IsUnderWay records (drop n left) before s2 callers c2 longer
    way_goes_on first n s2 c2 longer is some_left here rest played =
        let earlier : All (λ (r : Record O Q). r.round < first.round) way.done =
        λ i d h. omega (arith, way.later i d h 0 first some_left, ap (λ (r : Record O Q). r.round) is) in
        let cut : take n left ++ drop n left ≡ left = take-append-drop n left in
        let both : records ≡ (way.done ++ take n left) ++ drop n left =
        way.both ∙ ap (λ (l : List (Record O Q)). way.done ++ l) (sym cut) ∙ sym (append_assoc way.done (take n left) (drop n left)) in
        let below : All (λ (r : Record O Q). r.caller < length callers) (way.done ++ take n left) =
        all_front (λ (r : Record O Q). r.caller < length callers) (way.done ++ take n left) (drop n left) (subst (All (λ (r : Record O Q). r.caller < length callers)) both lawful.callers_are) in
        record {
          done = way.done ++ take n left;
          both = both;
          served = served_more way.done (take n left) first.round earlier here before s0 s2 callers c0 c2 text longer below way.served played;
          later = All-append (λ (r : Record O Q). All (λ (q : Record O Q). r.round < q.round) (drop n left)) way.done (take n left)
              (λ i d h j e inside. omega (arith, earlier i d h, rest j e inside))
              (λ i d h j e inside. omega (arith, here i d h, rest j e inside));
        }

    -- the same for the two parts of what is left
    pub way_step : (first : Record O Q) (n : ℕ) (round rest : List (Record O Q)) (s2 : Keeping S O) (c2 : List (Calling S O)) (longer : List ℕ) → Some first ≡ slice_get left 0
        → round ≡ take n left → rest ≡ drop n left → All (λ (r : Record O Q). r.round ≡ first.round) (take n left) → All (λ (r : Record O Q). first.round < r.round) (drop n left)
        → PlaysRound step answer round s0 s2 c0 c2 text longer → IsUnderWay records rest before s2 callers c2 longer
    way_step first n round rest s2 c2 longer is is_round is_rest here later played =
        subst (λ (l : List (Record O Q)). IsUnderWay records l before s2 callers c2 longer) (sym is_rest)
        (way_goes_on first n s2 c2 longer (first_at left first is).0 (first_at left first is).1 here later
        (subst (λ (l : List (Record O Q)). PlaysRound step answer l s0 s2 c0 c2 text longer) is_round played))

  -- the first of what is left is in its round
  pub some_taken : (left : List (Record O Q)) (first : Record O Q) (n : ℕ) → Some first ≡ slice_get left 0 → All (λ (r : Record O Q). first.round < r.round) (drop n left) → 0 < n
  some_taken left first zero is later =
      let at = first_at left first is in
      absurd (omega (arith, later 0 first at.1, ap (λ (r : Record O Q). r.round) at.0))
  some_taken left first (suc n) is later = omega arith

  -- nothing is left
  pub way_ends : (records left : List (Record O Q)) (before after : Keeping S O) (callers told : List (Calling S O)) (text : List ℕ)
      → IsUnderWay records left before after callers told text → left ≡ [] → HasServed step answer records before after callers told text
  way_ends records left before after callers told text way none =
      subst (λ (l : List (Record O Q)). HasServed step answer l before after callers told text)
      (sym (way.both ∙ ap (λ (l : List (Record O Q)). way.done ++ l) none ∙ append-nil way.done)) way.served

-- the version that `finish` gives is that of the journal
pub last_journal : {S O : Type 0} (store : Keeping S O) (callers : List (Calling S O)) (version : History S O) → IsBetweenRounds store callers → IsLast store callers version
    → version.journal ≡ store.journal
last_journal store callers version between last =
    let long : length version.journal ≡ length store.journal = last.count ∙ sym between.count in
    sym (prefix_refl version.journal).is ∙ ap (λ (n : ℕ). take n version.journal) long ∙ last.begins.is
