-- From what is tested to the points of a run.
use Rattle.std.proofs.Common.{◌≡◌, ◌==◌, ◌∙◌, ℕ, ◌<◌, ◌≤◌, ◌+◌, ◌-◌, Bool, true, false, List, [], ◌∷◌, length, get_or, map, filter, take, drop, refl, sym, ap, subst, inl, inr, arith}
use Rattle.std.specs.Prelude.{All, nat_lt, nat_le}
use Rattle.std.specs.List.{AllPairs}
use Rattle.std.specs.List.Sorted.{IsPermutation, IsNonDecreasingBy}
use Rattle.std.proofs.lemmas.Bool.{lt-ltb, ltb-true, ltb-false}
use Rattle.std.proofs.lemmas.List.{length-map, length-append, length-take, get_or-append_right, take-append-drop}
use Rattle.std.proofs.lemmas.List.Elements.{All-map, All-filter, filter_passes, filter-append}
use Rattle.std.proofs.lemmas.List.Sorted.{All-permutation, length_permutation, IsPermutation-map}
use Rattle.versions.specs.declared.batch.Entry.{Entry}
use Rattle.serve_text.specs.declared.record.Record.{Record}
use Rattle.serve_text.specs.Records.{Answered, batches_of, before, entries_of}
use Rattle.serve_text.specs.Histories.{IsOfItsRound, AreInRounds}
use Rattle.serve_text.specs.Determined.{AreNumbered}
use Rattle.serve_text.proofs.Orders.{filter_all, side, front_at}
use Rattle.serve_text.proofs.Keys.{same_order}
use Rattle.run_check.specs.declared.placed.Placed.{Placed}
use Rattle.run_check.specs.Placing.{placed_of, entries_in, tags_of, TagsRise}
use Rattle.run_check.specs.Verdicts.{numbers_of, IsOrdered}
use Rattle.run_check.proofs.Keyed.{fewer, same_count, none_passes, pairs_from_rising, rising_from_pairs, pairs_filter, rising_front, each_only, same_only, filter_permutation, sorted_same_where, risen, rising_map, map_rising, filter_map, take_map, pairs_map, all_unmap}
use Rattle.run_check.proofs.Placings.{entries_placed, placed_pairs, placed_all, placed_where}

pub map_twice : {X Y Z : Type 0} (f : X → Y) (g : Y → Z) (xs : List X) → map g (map f xs) ≡ map (λ x. g (f x)) xs
map_twice f g [] = refl
map_twice f g (x ∷ xs) = ap (λ l. g (f x) ∷ l) (map_twice f g xs)

get_or_front : {X : Type 0} (i m : ℕ) (xs : List X) (d : X) → i < length (take m xs) → get_or (take m xs) i d ≡ get_or xs i d
get_or_front i m xs d h = sym (ap (λ l. get_or l i d) (sym (take-append-drop m xs)) ∙ front_at (take m xs) (drop m xs) i d h)

module _ {O Q : Type 0} (callers : ℕ) (records : List (Record O Q)) (numbered : AreNumbered records) (in_rounds : AreInRounds callers records) where
  pub tags_rise : TagsRise (placed_of records)
  tags_rise = placed_pairs (λ m r n s. m < n) records numbered.rise

  pub rounds_rise : IsNonDecreasingBy (λ (p : Placed O). p.round) (placed_of records)
  rounds_rise =
      rising_from_pairs (λ (p : Placed O). p.round) (placed_of records)
      (placed_pairs (λ m r n s. r ≤ s) records (pairs_from_rising (λ (r : Record O Q). r.round) records in_rounds.rounds_rise))

  pub few_callers : All (λ (p : Placed O). p.entry.caller < callers) (placed_of records)
  few_callers = placed_all (λ r c t. c < callers) records in_rounds.callers_are

  pub batches_rise : AllPairs (λ (e f : Entry O). e.tag < f.tag) (batches_of records)
  batches_rise = subst (AllPairs (λ (e f : Entry O). e.tag < f.tag)) (entries_placed records) (pairs_map (λ (p : Placed O). p.entry) (λ (e f : Entry O). e.tag < f.tag) (placed_of records) tags_rise)

  pub numbers_are : numbers_of (batches_of records) ≡ tags_of (placed_of records)
  numbers_are = ap numbers_of (sym (entries_placed records)) ∙ map_twice (λ (p : Placed O). p.entry) (λ (e : Entry O). e.tag) (placed_of records)

  -- the batches of some rounds
  rounds_are : (test : ℕ → Bool) → batches_of (filter (λ (r : Record O Q). test r.round) records) ≡ entries_in (filter (λ (p : Placed O). test p.round) (placed_of records))
  rounds_are test = sym (entries_placed (filter (λ (r : Record O Q). test r.round) records)) ∙ ap entries_in (placed_where test records)

  rounds_count : (test : ℕ → Bool) → length (batches_of (filter (λ (r : Record O Q). test r.round) records)) ≡ length (filter (λ (p : Placed O). test p.round) (placed_of records))
  rounds_count test = ap length (rounds_are test) ∙ length-map (filter (λ (p : Placed O). test p.round) (placed_of records)) (λ (p : Placed O). p.entry)

  -- reads of their rounds
  pub of_their_rounds : (reads : List (Answered Q))
      → All (λ (a : Answered Q). (length (filter (λ (p : Placed O). nat_lt p.round a.asked.round) (placed_of records)) ≤ a.number) × (a.number ≤ length (filter (λ (p : Placed O). nat_le p.round a.asked.round) (placed_of records)))) reads
      → All (IsOfItsRound records) reads
  of_their_rounds reads all k d h =
      let here = all k d h in
      let least = rounds_count (λ n. nat_lt n (get_or reads k d).asked.round) in
      let most = rounds_count (λ n. nat_le n (get_or reads k d).asked.round) in
      record { least = omega (arith, here.0, least); most = omega (arith, here.1, most) }

  pub counts_of_rounds : (reads : List (Answered Q)) → All (IsOfItsRound records) reads
      → All (λ (a : Answered Q). (length (filter (λ (p : Placed O). nat_lt p.round a.asked.round) (placed_of records)) ≤ a.number) × (a.number ≤ length (filter (λ (p : Placed O). nat_le p.round a.asked.round) (placed_of records)))) reads
  counts_of_rounds reads all k d h =
      let here = all k d h in
      let least = rounds_count (λ n. nat_lt n (get_or reads k d).asked.round) in
      let most = rounds_count (λ n. nat_le n (get_or reads k d).asked.round) in
      (omega (arith, here.least, least), omega (arith, here.most, most))

  module _ (ordered : List (Placed O)) (same : IsPermutation (placed_of records) ordered) where
    pub few_ordered : All (λ (p : Placed O). p.entry.caller < callers) ordered
    few_ordered = All-permutation (λ (p : Placed O). p.entry.caller < callers) (placed_of records) ordered same few_callers

    pub many_entries : (reads : List (Answered Q))
        → All (λ (a : Answered Q). (length (filter (λ (p : Placed O). nat_lt p.round a.asked.round) (placed_of records)) ≤ a.number) × (a.number ≤ length (filter (λ (p : Placed O). nat_le p.round a.asked.round) (placed_of records)))) reads
        → All (λ (a : Answered Q). a.number ≤ length (entries_in ordered)) reads
    many_entries reads all k d h =
        let here = (all k d h).1 in
        let part = fewer (λ (p : Placed O). nat_le p.round (get_or reads k d).asked.round) (placed_of records) in
        let whole = length_permutation (placed_of records) ordered same in
        let entries = length-map ordered (λ (p : Placed O). p.entry) in
        omega (arith, here, part, whole, entries)

    pub in_this_order : (order : List ℕ) → tags_of ordered ≡ order → IsOrdered records order (entries_in ordered)
    in_this_order order tags = record {
      once = subst (λ (l : List (Entry O)). IsPermutation l (entries_in ordered)) (entries_placed records) (IsPermutation-map (λ (p : Placed O). p.entry) (placed_of records) ordered same);
      numbers = map_twice (λ (p : Placed O). p.entry) (λ (e : Entry O). e.tag) ordered ∙ tags;
    }

    pub one_journal : (order : List ℕ) (journal : List (Entry O)) → tags_of ordered ≡ order → IsOrdered records order journal → entries_in ordered ≡ journal
    one_journal order journal tags is =
        let mine = in_this_order order tags in
        same_order (λ (e : Entry O). e.tag) (batches_of records) (entries_in ordered) journal batches_rise mine.once is.once (mine.numbers ∙ sym is.numbers)

    mine_of : (c : ℕ) (ps : List (Placed O)) → entries_of c (entries_in ps) ≡ entries_in (filter (λ (p : Placed O). p.entry.caller == c) ps)
    mine_of c ps = filter_map (λ (p : Placed O). p.entry) (λ (e : Entry O). e.caller == c) ps

    mine_first : (c : ℕ) → entries_of c (batches_of records) ≡ entries_in (filter (λ (p : Placed O). p.entry.caller == c) (placed_of records))
    mine_first c = ap (entries_of c) (sym (entries_placed records)) ∙ mine_of c (placed_of records)

    -- point 2
    pub callers_hold : ((c : ℕ) → IsNonDecreasingBy (λ (p : Placed O). p.entry.tag) (filter (λ (p : Placed O). p.entry.caller == c) ordered)) → (c : ℕ) → entries_of c (entries_in ordered) ≡ entries_of c (batches_of records)
    callers_hold up c =
        mine_of c ordered
        ∙ ap entries_in (sym (sorted_same_where (λ (p : Placed O). p.entry.tag) (λ (p : Placed O). p.entry.caller == c) (placed_of records) ordered tags_rise same
        (pairs_from_rising (λ (p : Placed O). p.entry.tag) (filter (λ (p : Placed O). p.entry.caller == c) ordered) (up c))))
        ∙ sym (mine_first c)

    pub callers_rise : ((c : ℕ) → entries_of c (entries_in ordered) ≡ entries_of c (batches_of records)) → (c : ℕ) → IsNonDecreasingBy (λ (p : Placed O). p.entry.tag) (filter (λ (p : Placed O). p.entry.caller == c) ordered)
    callers_rise all c =
        let first = filter (λ (p : Placed O). p.entry.caller == c) (placed_of records) in
        let up : IsNonDecreasingBy (λ (p : Placed O). p.entry.tag) first =
        rising_from_pairs (λ (p : Placed O). p.entry.tag) first (risen (λ (p : Placed O). p.entry.tag) first (pairs_filter (λ (p q : Placed O). p.entry.tag < q.entry.tag) (λ (p : Placed O). p.entry.caller == c) (placed_of records) tags_rise)) in
        rising_map (λ (p : Placed O). p.entry) (λ (e : Entry O). e.tag) (filter (λ (p : Placed O). p.entry.caller == c) ordered)
        (subst (IsNonDecreasingBy (λ (e : Entry O). e.tag)) (sym (mine_first c) ∙ sym (all c) ∙ mine_of c ordered) (map_rising (λ (p : Placed O). p.entry) (λ (e : Entry O). e.tag) first up))

    -- point 3
    front_count : (k : ℕ) → length (batches_of (before k records)) ≡ length (filter (λ (p : Placed O). nat_lt p.round k) ordered)
    front_count k = rounds_count (λ n. nat_lt n k) ∙ sym (same_count (λ (p : Placed O). nat_lt p.round k) (placed_of records) ordered same)

    pub rounds_hold : IsNonDecreasingBy (λ (p : Placed O). p.round) ordered → (k : ℕ) → IsPermutation (batches_of (before k records)) (take (length (batches_of (before k records))) (entries_in ordered))
    rounds_hold up k =
        let few = filter (λ (p : Placed O). nat_lt p.round k) in
        let front : take (length (batches_of (before k records))) (entries_in ordered) ≡ entries_in (few ordered) =
        take_map (λ (p : Placed O). p.entry) (length (batches_of (before k records))) ordered
        ∙ ap entries_in (ap (λ (n : ℕ). take n ordered) (front_count k) ∙ rising_front (λ (p : Placed O). p.round) k ordered (pairs_from_rising (λ (p : Placed O). p.round) ordered up)) in
        subst (λ (l : List (Entry O)). IsPermutation (batches_of (before k records)) l) (sym front)
        (subst (λ (l : List (Entry O)). IsPermutation l (entries_in (few ordered))) (sym (rounds_are (λ n. nat_lt n k)))
        (IsPermutation-map (λ (p : Placed O). p.entry) (few (placed_of records)) (few ordered) (filter_permutation (λ (p : Placed O). p.entry.tag) (λ (p : Placed O). nat_lt p.round k) (placed_of records) ordered tags_rise same)))

    -- an entry of which each batch with its number is of an earlier round
    abbrev IsEarly : ℕ → Entry O → Type 0
    IsEarly k e = All (λ (p : Placed O). p.entry.tag ≡ e.tag → p.round < k) (placed_of records)

    each_early : (k : ℕ) → All (λ (q : Placed O). IsEarly k q.entry) (filter (λ (p : Placed O). nat_lt p.round k) (placed_of records))
    each_early k i d h j e inside tags =
        let first = filter (λ (p : Placed O). nat_lt p.round k) (placed_of records) in
        let q = get_or first i d in
        let p = get_or (placed_of records) j e in
        let only = each_only (λ (x : Placed O). x.entry.tag) (placed_of records) tags_rise in
        let whole : p ≡ q = same_only (λ (x : Placed O). x.entry.tag) (placed_of records) p q (only j e inside) (All-filter (λ (x : Placed O). nat_lt x.round k) (λ (x : Placed O). filter (λ (y : Placed O). y.entry.tag == x.entry.tag) (placed_of records) ≡ x ∷ []) (placed_of records) only i d h) tags in
        let earlier = ltb-true q.round k (filter_passes (λ (x : Placed O). nat_lt x.round k) (placed_of records) i d h) in
        subst (λ (x : Placed O). x.round < k) (sym whole) earlier

    module _ (k : ℕ) (perm : IsPermutation (batches_of (before k records)) (take (length (batches_of (before k records))) (entries_in ordered))) where
      front_entries : All (IsEarly k) (take (length (batches_of (before k records))) (entries_in ordered))
      front_entries =
          All-permutation (IsEarly k) (batches_of (before k records)) (take (length (batches_of (before k records))) (entries_in ordered)) perm
          (subst (All (IsEarly k)) (sym (rounds_are (λ n. nat_lt n k))) (All-map (IsEarly k) (λ (p : Placed O). p.entry) (filter (λ (p : Placed O). nat_lt p.round k) (placed_of records)) (each_early k)))

      front_early : All (λ (p : Placed O). nat_lt p.round k ≡ true) (take (length (batches_of (before k records))) ordered)
      front_early i d h =
          let m = length (batches_of (before k records)) in
          let early : All (λ (p : Placed O). IsEarly k p.entry) (take m ordered) = all_unmap (λ (p : Placed O). p.entry) (IsEarly k) (take m ordered) (subst (All (IsEarly k)) (take_map (λ (p : Placed O). p.entry) m ordered) front_entries) in
          let p = get_or (take m ordered) i d in
          let all : All (λ (q : Placed O). q.entry.tag ≡ p.entry.tag → q.round < k) ordered = All-permutation (λ (q : Placed O). q.entry.tag ≡ p.entry.tag → q.round < k) (placed_of records) ordered same (early i d h) in
          let within : i < length ordered = omega (arith, h, length-take m ordered) in
          let at : get_or ordered i d ≡ p = sym (get_or_front i m ordered d h) in
          lt-ltb p.round k (subst (λ (x : Placed O). x.round < k) at (all i d within (ap (λ (x : Placed O). x.entry.tag) at)))

      back_late : All (λ (p : Placed O). nat_lt p.round k ≡ false) (drop (length (batches_of (before k records))) ordered)
      back_late =
          let m = length (batches_of (before k records)) in
          let few = filter (λ (p : Placed O). nat_lt p.round k) in
          let parts : length (few ordered) ≡ length (few (take m ordered)) + length (few (drop m ordered)) =
          ap (λ (l : List (Placed O)). length (few l)) (sym (take-append-drop m ordered)) ∙ ap length (filter-append (λ (p : Placed O). nat_lt p.round k) (take m ordered) (drop m ordered)) ∙ length-append (few (take m ordered)) (few (drop m ordered)) in
          let front : length (few (take m ordered)) ≡ length (take m ordered) = ap length (filter_all (λ (p : Placed O). nat_lt p.round k) (take m ordered) front_early) in
          let part = fewer (λ (p : Placed O). nat_lt p.round k) ordered in
          none_passes (λ (p : Placed O). nat_lt p.round k) (drop m ordered) (omega (arith, parts, front, part, front_count k, length-take m ordered))

    rounds_at : ((k : ℕ) → IsPermutation (batches_of (before k records)) (take (length (batches_of (before k records))) (entries_in ordered)))
        → (i j : ℕ) (d : Placed O) → i ≤ j → j < length ordered → (get_or ordered j d).round < (get_or ordered i d).round → ⊥
    rounds_at all i j d h inside falls =
        let k = (get_or ordered i d).round in
        let m = length (batches_of (before k records)) in
        let whole = take-append-drop m ordered in
        elim (side j m) [
          | inl p ↦
              let at : get_or (take m ordered) i d ≡ get_or ordered i d = get_or_front i m ordered d (omega (arith, h, p, inside, length-take m ordered)) in
              let early = ltb-true (get_or (take m ordered) i d).round k (front_early k (all k) i d (omega (arith, h, p, inside, length-take m ordered))) in
              let z = ap (λ (x : Placed O). x.round) at in
              omega (arith, early, z)
          | inr p ↦
              let count : length (take m ordered) ≡ m = omega (arith, length-take m ordered, p, inside) in
              let at : get_or ordered j d ≡ get_or (drop m ordered) (j - m) d = ap (λ (l : List (Placed O)). get_or l j d) (sym whole) ∙ get_or-append_right (take m ordered) (drop m ordered) m j d count p in
              let back : j - m < length (drop m ordered) = omega (arith, p, inside, ap length whole, length-append (take m ordered) (drop m ordered), count) in
              let late = ltb-false (get_or (drop m ordered) (j - m) d).round k (back_late k (all k) (j - m) d back) in
              let z = ap (λ (x : Placed O). x.round) at in
              omega (arith, late, z, falls)
        ]

    pub rounds_up : ((k : ℕ) → IsPermutation (batches_of (before k records)) (take (length (batches_of (before k records))) (entries_in ordered))) → IsNonDecreasingBy (λ (p : Placed O). p.round) ordered
    rounds_up all i j d h inside =
        elim (side (get_or ordered j d).round (get_or ordered i d).round) [
          | inl p ↦ absurd (rounds_at all i j d h inside p)
          | inr p ↦ p
        ]
