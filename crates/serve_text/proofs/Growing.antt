-- A lawful history that goes on by one more round.
use Rattle.std.proofs.Common.{◌≡◌, ◌==◌, ℕ, zero, suc, ◌<◌, ◌≤◌, ◌+◌, Bool, true, false, List, [], ◌∷◌, ◌++◌, length, map, filter, take, get_or, inl, inr, refl, sym, ap, ◌∙◌, subst, arith, append_assoc}
use Rattle.std.specs.Prelude.{All, nat_lt, nat_le, slice_get, Some, None}
use Rattle.std.specs.List.Sorted.{IsPermutation, IsNonDecreasingBy}
use Rattle.std.proofs.lemmas.Bool.{cases_Bool, lt-ltb, le-ltb, le-leb, lt-leb}
use Rattle.std.proofs.Math.Seq.{take-length}
use mathlib.Core.Logic.{dite}
use native.Mathlib.Decide.{dec_lt}
use Rattle.std.proofs.lemmas.Grind.{flat_map-append}
use Rattle.std.proofs.lemmas.List.{append-nil, map-append, length-append, length-map, get_or-map, take-take}
use Rattle.std.proofs.lemmas.List.Elements.{All-append, All-filter, filter-append}
use Rattle.std.proofs.lemmas.List.Sorted.{IsPermutation-refl, length_permutation}
use Rattle.versions.specs.declared.batch.Entry.{Entry}
use Rattle.versions.specs.Prefix.{IsPrefix}
use Rattle.serve_text.specs.declared.record.Record.{Record}
use Rattle.serve_text.specs.declared.record.Act.{Act}
use Rattle.serve_text.specs.declared.record.Act.TheVariants.{Submit, Read}
use Rattle.serve_text.specs.Records.{Asked, Answered, batch_by, read_by, batches_of, reads_of, before, up_to, records_of, entries_of, answered_of}
use Rattle.serve_text.specs.Histories.{IsOfItsRound, IsLawfulHistory}
use Rattle.serve_text.specs.Texts.{reply_line, replies_text, order_line, order_text}
use Rattle.serve_text.proofs.Orders.{filter_yes, filter_no, filter_all, filter_none, same_of_each, rises_append}

pub batches_of-nil : (O Q : Type 0) → batches_of {O = O} {Q = Q} [] ≡ []
unfolding batches_of
batches_of-nil O Q = refl

pub reads_of-nil : (O Q : Type 0) → reads_of {O = O} {Q = Q} [] ≡ []
unfolding reads_of
reads_of-nil O Q = refl

module _ {O Q : Type 0} where
  pub batches_of-append : (xs ys : List (Record O Q)) → batches_of (xs ++ ys) ≡ batches_of xs ++ batches_of ys
  unfolding batches_of
  batches_of-append xs ys = flat_map-append (λ (r : Record O Q). batch_by r.caller r.place r.act) xs ys

  pub reads_of-append : (xs ys : List (Record O Q)) → reads_of (xs ++ ys) ≡ reads_of xs ++ reads_of ys
  unfolding reads_of
  reads_of-append xs ys = flat_map-append (λ (r : Record O Q). read_by r.place r.caller r.round r.act) xs ys

  pub batches_of-cons : (r : Record O Q) (rs : List (Record O Q)) → batches_of (r ∷ rs) ≡ batch_by r.caller r.place r.act ++ batches_of rs
  unfolding batches_of
  batches_of-cons r rs = refl

  pub reads_of-cons : (r : Record O Q) (rs : List (Record O Q)) → reads_of (r ∷ rs) ≡ read_by r.place r.caller r.round r.act ++ reads_of rs
  unfolding reads_of
  reads_of-cons r rs = refl

  -- some of the records have at most as many batches
  pub fewer_batches : (p : Record O Q → Bool) (rs : List (Record O Q)) → length (batches_of (filter p rs)) ≤ length (batches_of rs)
  fewer_batches p [] = omega arith
  fewer_batches p (r ∷ rs) =
      let rest = fewer_batches p rs in
      let whole : length (batches_of (r ∷ rs)) ≡ length (batch_by r.caller r.place r.act) + length (batches_of rs) =
      ap length (batches_of-cons r rs) ∙ length-append (batch_by r.caller r.place r.act) (batches_of rs) in
      elim (cases_Bool (p r)) [
        | inl t ↦
            let some : length (batches_of (filter p (r ∷ rs))) ≡ length (batch_by r.caller r.place r.act) + length (batches_of (filter p rs)) =
            ap (λ (l : List (Record O Q)). length (batches_of l)) (filter_yes p r rs t) ∙ ap length (batches_of-cons r (filter p rs)) ∙ length-append (batch_by r.caller r.place r.act) (batches_of (filter p rs)) in
            omega (arith, rest, whole, some)
        | inr f ↦
            let none : length (batches_of (filter p (r ∷ rs))) ≡ length (batches_of (filter p rs)) = ap (λ (l : List (Record O Q)). length (batches_of l)) (filter_no p r rs f) in
            omega (arith, rest, whole, none)
      ]

  -- what holds of the records' rounds holds of the reads' rounds
  round_by : (P : ℕ → Type 0) (place caller round : ℕ) (act : Act O Q) → P round → All (λ (a : Asked Q). P a.round) (read_by place caller round act)
  round_by P place caller round (Submit batch) h k d inside = absurd (omega (arith, inside))
  round_by P place caller round (Read query) h zero d inside = h
  round_by P place caller round (Read query) h (suc k) d inside = absurd (omega (arith, inside))

  rounds_of_reads : (P : ℕ → Type 0) (rs : List (Record O Q)) → All (λ (r : Record O Q). P r.round) rs → All (λ (a : Asked Q). P a.round) (reads_of rs)
  rounds_of_reads P [] all = subst (All (λ (a : Asked Q). P a.round)) (sym (reads_of-nil O Q)) (λ k d inside. absurd (omega (arith, inside)))
  rounds_of_reads P (r ∷ rs) all =
      subst (All (λ (a : Asked Q). P a.round)) (sym (reads_of-cons r rs))
      (All-append (λ (a : Asked Q). P a.round) (read_by r.place r.caller r.round r.act) (reads_of rs)
      (round_by P r.place r.caller r.round r.act (all 0 r (omega arith)))
      (rounds_of_reads P rs (λ k d h. all (suc k) d (omega (arith, h)))))

  rounds_answered : (P : ℕ → Type 0) (rs : List (Record O Q)) (reads : List (Answered Q)) → map (λ (a : Answered Q). a.asked) reads ≡ reads_of rs
      → All (λ (r : Record O Q). P r.round) rs → All (λ (a : Answered Q). P a.asked.round) reads
  rounds_answered P rs reads asked all = λ k d h.
      let long : length reads ≡ length (reads_of rs) = sym (length-map reads (λ (a : Answered Q). a.asked)) ∙ ap length asked in
      let same : (get_or reads k d).asked ≡ get_or (reads_of rs) k d.asked =
      sym (get_or-map (λ (a : Answered Q). a.asked) reads k d d.asked h) ∙ ap (λ (l : List (Asked Q)). get_or l k d.asked) asked in
      subst (λ (a : Asked Q). P a.round) (sym same) (rounds_of_reads P rs all k d.asked (omega (arith, h, long)))

  module _ (done round : List (Record O Q)) (k : ℕ) (earlier : All (λ (r : Record O Q). r.round < k) done) (here : All (λ (r : Record O Q). r.round ≡ k) round) where
    below_here : (n : ℕ) → n ≤ k → before n round ≡ []
    below_here n h = filter_none (λ (r : Record O Q). nat_lt r.round n) round (λ i d inside. le-ltb _ _ (omega (arith, h, here i d inside)))

    before_old : (n : ℕ) → n ≤ k → before n (done ++ round) ≡ before n done
    before_old n h =
        filter-append (λ (r : Record O Q). nat_lt r.round n) done round
        ∙ ap (λ (l : List (Record O Q)). before n done ++ l) (below_here n h)
        ∙ append-nil (before n done)

    before_all : before k (done ++ round) ≡ done
    before_all = before_old k (omega arith) ∙ filter_all (λ (r : Record O Q). nat_lt r.round k) done (λ i d inside. lt-ltb _ _ (earlier i d inside))

    before_new : (n : ℕ) → k < n → before n (done ++ round) ≡ done ++ round
    before_new n h =
        filter_all (λ (r : Record O Q). nat_lt r.round n) (done ++ round)
        (All-append (λ (r : Record O Q). nat_lt r.round n ≡ true) done round
        (λ i d inside. lt-ltb _ _ (omega (arith, h, earlier i d inside)))
        (λ i d inside. lt-ltb _ _ (omega (arith, h, here i d inside))))

    up_to_old : (n : ℕ) → n < k → up_to n (done ++ round) ≡ up_to n done
    up_to_old n h =
        filter-append (λ (r : Record O Q). nat_le r.round n) done round
        ∙ ap (λ (l : List (Record O Q)). up_to n done ++ l) (filter_none (λ (r : Record O Q). nat_le r.round n) round (λ i d inside. lt-leb _ _ (omega (arith, h, here i d inside))))
        ∙ append-nil (up_to n done)

    up_to_all : up_to k (done ++ round) ≡ done ++ round
    up_to_all =
        filter_all (λ (r : Record O Q). nat_le r.round k) (done ++ round)
        (All-append (λ (r : Record O Q). nat_le r.round k ≡ true) done round
        (λ i d inside. le-leb _ _ (omega (arith, earlier i d inside)))
        (λ i d inside. le-leb _ _ (omega (arith, here i d inside))))

    module _ (reads new : List (Answered Q)) (journal longer : List (Entry O)) (lawful : IsLawfulHistory done reads journal) (front : IsPrefix journal longer)
        (each : (c : ℕ) → entries_of c longer ≡ entries_of c (batches_of (done ++ round))) (asked : map (λ (a : Answered Q). a.asked) new ≡ reads_of round)
        (least : All (λ (a : Answered Q). length journal ≤ a.number) new) (most : All (λ (a : Answered Q). a.number ≤ length longer) new)
        (rise : (c : ℕ) → IsNonDecreasingBy (λ (a : Answered Q). a.number) (answered_of c new)) where
      count : length journal ≡ length (batches_of done)
      count = length_permutation (batches_of done) journal lawful.once

      once : IsPermutation (batches_of (done ++ round)) longer
      once = same_of_each (λ (e : Entry O). e.caller) (batches_of (done ++ round)) longer (λ c. sym (each c))

      count_now : length longer ≡ length (batches_of (done ++ round))
      count_now = length_permutation (batches_of (done ++ round)) longer once

      -- the journal so far begins the longer one
      same_front : (m : ℕ) → m ≤ length journal → take m longer ≡ take m journal
      same_front m h = sym (take-take m (length journal) longer h) ∙ ap (take m) front.is

      pub few : All (λ (a : Answered Q). a.number ≤ length journal) reads
      few = λ i d inside.
          let most_of = (lawful.bounds i d inside).most in
          let fewer = fewer_batches (λ (r : Record O Q). nat_le r.round (get_or reads i d).asked.round) done in
          omega (arith, most_of, fewer, count)

      rounds_old : (n : ℕ) → n ≤ k → IsPermutation (batches_of (before n (done ++ round))) (take (length (batches_of (before n (done ++ round)))) longer)
      rounds_old n h =
          let m = length (batches_of (before n done)) in
          let within : m ≤ length journal = omega (arith, fewer_batches (λ (r : Record O Q). nat_lt r.round n) done, count) in
          subst (λ (l : List (Record O Q)). IsPermutation (batches_of l) (take (length (batches_of l)) longer)) (sym (before_old n h))
          (subst (λ (l : List (Entry O)). IsPermutation (batches_of (before n done)) l) (sym (same_front m within)) (lawful.rounds n))

      rounds_new : (n : ℕ) → k < n → IsPermutation (batches_of (before n (done ++ round))) (take (length (batches_of (before n (done ++ round)))) longer)
      rounds_new n h =
          subst (λ (l : List (Record O Q)). IsPermutation (batches_of l) (take (length (batches_of l)) longer)) (sym (before_new n h))
          (subst (λ (l : List (Entry O)). IsPermutation (batches_of (done ++ round)) l)
          (sym (ap (λ (m : ℕ). take m longer) (sym count_now) ∙ take-length longer)) once)

      bounds_old : All (IsOfItsRound (done ++ round)) reads
      bounds_old = λ i d inside.
          let early : (get_or reads i d).asked.round < k = rounds_answered (λ n. n < k) done reads lawful.asked earlier i d inside in
          let was = lawful.bounds i d inside in
          record {
            least = subst (λ (l : List (Record O Q)). length (batches_of l) ≤ (get_or reads i d).number) (sym (before_old (get_or reads i d).asked.round (omega (arith, early)))) was.least;
            most = subst (λ (l : List (Record O Q)). (get_or reads i d).number ≤ length (batches_of l)) (sym (up_to_old (get_or reads i d).asked.round early)) was.most;
          }

      bounds_new : All (IsOfItsRound (done ++ round)) new
      bounds_new = λ i d inside.
          let now : (get_or new i d).asked.round ≡ k = rounds_answered (λ n. n ≡ k) round new asked here i d inside in
          let low : length (batches_of (before k (done ++ round))) ≤ (get_or new i d).number =
          subst (λ (l : List (Record O Q)). length (batches_of l) ≤ (get_or new i d).number) (sym before_all) (omega (arith, least i d inside, count)) in
          let high : (get_or new i d).number ≤ length (batches_of (up_to k (done ++ round))) =
          subst (λ (l : List (Record O Q)). (get_or new i d).number ≤ length (batches_of l)) (sym up_to_all) (omega (arith, most i d inside, count_now)) in
          record {
            least = subst (λ (n : ℕ). length (batches_of (before n (done ++ round))) ≤ (get_or new i d).number) (sym now) low;
            most = subst (λ (n : ℕ). (get_or new i d).number ≤ length (batches_of (up_to n (done ++ round)))) (sym now) high;
          }

      never_falls : (c : ℕ) → IsNonDecreasingBy (λ (a : Answered Q). a.number) (answered_of c (reads ++ new))
      never_falls c =
          subst (IsNonDecreasingBy (λ (a : Answered Q). a.number)) (sym (filter-append (λ (a : Answered Q). a.asked.caller == c) reads new))
          (rises_append (λ (a : Answered Q). a.number) (answered_of c reads) (answered_of c new) (lawful.never_falls c) (rise c) (length journal)
          (All-filter (λ (a : Answered Q). a.asked.caller == c) (λ (a : Answered Q). a.number ≤ length journal) reads few)
          (All-filter (λ (a : Answered Q). a.asked.caller == c) (λ (a : Answered Q). length journal ≤ a.number) new least))

      pub one_round_more : IsLawfulHistory (done ++ round) (reads ++ new) longer
      one_round_more = record {
        asked = map-append (λ (a : Answered Q). a.asked) reads new ∙ ap (λ (l : List (Asked Q)). l ++ map (λ (a : Answered Q). a.asked) new) lawful.asked
            ∙ ap (λ (l : List (Asked Q)). reads_of done ++ l) asked ∙ sym (reads_of-append done round);
        once = once;
        callers = each;
        rounds = λ n. dite (dec_lt k n) (λ h. rounds_new n h) (λ h. rounds_old n (omega arith));
        bounds = All-append (IsOfItsRound (done ++ round)) reads new bounds_old bounds_new;
        never_falls = never_falls;
      }

-- before the first round
pub no_round_yet : (O Q : Type 0) → IsLawfulHistory {O = O} {Q = Q} [] [] []
no_round_yet O Q = record {
  asked = sym (reads_of-nil O Q);
  once = subst (λ (l : List (Entry O)). IsPermutation l []) (sym (batches_of-nil O Q)) (IsPermutation-refl []);
  callers = λ c. ap (entries_of c) (sym (batches_of-nil O Q));
  rounds = λ n. subst (λ (l : List (Entry O)). IsPermutation l (take (length l) [])) (sym (batches_of-nil O Q)) (IsPermutation-refl []);
  bounds = λ i d inside. absurd (omega (arith, inside));
  never_falls = λ c i j d h inside. absurd (omega (arith, inside));
}

module _ {S O Q : Type 0} (step : S → O → S) (answer : S → Q → List ℕ) (base : S) where
  -- a read's line stays when the journal grows
  pub line_stays : (journal longer : List (Entry O)) (a : Answered Q) → IsPrefix journal longer → a.number ≤ length journal
      → reply_line step answer base longer a ≡ reply_line step answer base journal a
  unfolding reply_line
  line_stays journal longer a front h =
      let same : take a.number longer ≡ take a.number journal = sym (take-take a.number (length journal) longer h) ∙ ap (take a.number) front.is in
      rw same refl

  pub lines_stay : (journal longer : List (Entry O)) (reads : List (Answered Q)) → IsPrefix journal longer → All (λ (a : Answered Q). a.number ≤ length journal) reads
      → map (reply_line step answer base longer) reads ≡ map (reply_line step answer base journal) reads
  lines_stay journal longer [] front few = refl
  lines_stay journal longer (a ∷ reads) front few =
      ap (λ (l : List ℕ). l ∷ map (reply_line step answer base longer) reads) (line_stays journal longer a front (few 0 a (omega arith)))
      ∙ ap (λ (l : List (List ℕ)). reply_line step answer base journal a ∷ l) (lines_stay journal longer reads front (λ k d h. few (suc k) d (omega (arith, h))))

  pub replies_stay : (journal longer : List (Entry O)) (reads : List (Answered Q)) → IsPrefix journal longer → All (λ (a : Answered Q). a.number ≤ length journal) reads
      → replies_text step answer base longer reads ≡ replies_text step answer base journal reads
  replies_stay journal longer [] front few = refl
  replies_stay journal longer (a ∷ reads) front few =
      ap (λ (l : List ℕ). l ++ replies_text step answer base longer reads) (line_stays journal longer a front (few 0 a (omega arith)))
      ∙ ap (λ (l : List ℕ). reply_line step answer base journal a ++ l) (replies_stay journal longer reads front (λ k d h. few (suc k) d (omega (arith, h))))

  pub replies_more : (journal longer : List (Entry O)) (reads new : List (Answered Q)) → IsPrefix journal longer → All (λ (a : Answered Q). a.number ≤ length journal) reads
      → replies_text step answer base longer (reads ++ new) ≡ replies_text step answer base journal reads ++ replies_text step answer base longer new
  replies_more journal longer reads new front few =
      flat_map-append (reply_line step answer base longer) reads new
      ∙ ap (λ (l : List ℕ). l ++ replies_text step answer base longer new) (replies_stay journal longer reads front few)

module _ {O : Type 0} where
  -- one line more
  pub order_text-more : (place i : ℕ) (es : List (Entry O)) (e : Entry O) → Some e ≡ slice_get es i
      → order_text place (take (i + 1) es) ≡ order_text place (take i es) ++ order_line (place + i) e.tag
  order_text-more place i [] e is = absurd (let q : Some e ≡ None = is in cc)
  order_text-more place zero (x ∷ es) e is =
      let same : x ≡ e = (let q : Some e ≡ Some x = is in cc) in
      append-nil (order_line place x.tag) ∙ ap (λ (z : Entry O). order_line place z.tag) same ∙ ap (λ (n : ℕ). order_line n e.tag) (let q : place ≡ place + 0 = omega arith in q)
  order_text-more place (suc i) (x ∷ es) e is =
      ap (λ (n : ℕ). order_text place (take n (x ∷ es))) (let q : suc i + 1 ≡ suc (i + 1) = omega arith in q)
      ∙ ap (λ (l : List ℕ). order_line place x.tag ++ l) (order_text-more (place + 1) i es e is)
      ∙ sym (append_assoc (order_line place x.tag) (order_text (place + 1) (take i es)) (order_line (place + 1 + i) e.tag))
      ∙ ap (λ (n : ℕ). (order_line place x.tag ++ order_text (place + 1) (take i es)) ++ order_line n e.tag) (let q : place + 1 + i ≡ place + suc i = omega arith in q)

module _ {O Q : Type 0} where
  own_batch : (c caller place : ℕ) (act : Act O Q) → (caller == c) ≡ true → entries_of c (batch_by caller place act) ≡ batch_by caller place act
  own_batch c caller place (Submit batch) e = rw e refl
  own_batch c caller place (Read query) e = refl

  other_batch : (c caller place : ℕ) (act : Act O Q) → (caller == c) ≡ false → entries_of c (batch_by caller place act) ≡ []
  other_batch c caller place (Submit batch) e = rw e refl
  other_batch c caller place (Read query) e = refl

  -- the batches of a caller's records are those of the caller
  pub batches_of_caller : (c : ℕ) (rs : List (Record O Q)) → entries_of c (batches_of rs) ≡ batches_of (records_of c rs)
  batches_of_caller c [] = ap (entries_of c) (batches_of-nil O Q) ∙ sym (batches_of-nil O Q)
  batches_of_caller c (r ∷ rs) =
      ap (entries_of c) (batches_of-cons r rs)
      ∙ filter-append (λ (e : Entry O). e.caller == c) (batch_by r.caller r.place r.act) (batches_of rs)
      ∙ ap (λ (l : List (Entry O)). entries_of c (batch_by r.caller r.place r.act) ++ l) (batches_of_caller c rs)
      ∙ elim (cases_Bool (r.caller == c)) as (λ s. entries_of c (batch_by r.caller r.place r.act) ++ batches_of (records_of c rs) ≡ batches_of (records_of c (r ∷ rs))) [
        | inl t ↦ ap (λ (l : List (Entry O)). l ++ batches_of (records_of c rs)) (own_batch c r.caller r.place r.act t)
            ∙ sym (batches_of-cons r (records_of c rs)) ∙ sym (ap batches_of (filter_yes (λ (x : Record O Q). x.caller == c) r rs t))
        | inr f ↦ ap (λ (l : List (Entry O)). l ++ batches_of (records_of c rs)) (other_batch c r.caller r.place r.act f)
            ∙ sym (ap batches_of (filter_no (λ (x : Record O Q). x.caller == c) r rs f))
      ]

  batch_below : (n caller place : ℕ) (act : Act O Q) → caller < n → All (λ (e : Entry O). e.caller < n) (batch_by caller place act)
  batch_below n caller place (Submit batch) h zero d inside = h
  batch_below n caller place (Submit batch) h (suc k) d inside = absurd (omega (arith, inside))
  batch_below n caller place (Read query) h k d inside = absurd (omega (arith, inside))

  pub batches_below : (n : ℕ) (rs : List (Record O Q)) → All (λ (r : Record O Q). r.caller < n) rs → All (λ (e : Entry O). e.caller < n) (batches_of rs)
  batches_below n [] all = subst (All (λ (e : Entry O). e.caller < n)) (sym (batches_of-nil O Q)) (λ k d inside. absurd (omega (arith, inside)))
  batches_below n (r ∷ rs) all =
      subst (All (λ (e : Entry O). e.caller < n)) (sym (batches_of-cons r rs))
      (All-append (λ (e : Entry O). e.caller < n) (batch_by r.caller r.place r.act) (batches_of rs)
      (batch_below n r.caller r.place r.act (all 0 r (omega arith)))
      (batches_below n rs (λ k d h. all (suc k) d (omega (arith, h)))))
