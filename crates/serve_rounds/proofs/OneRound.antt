-- One round, from what its callers and its combiner leave.
use Rattle.std.proofs.Common.{◌≡◌, ℕ, ◌<◌, ◌≤◌, List, [], ◌∷◌, ◌++◌, length, map, take, drop, get_or, sym, ap, ◌∙◌, subst, arith}
use Rattle.std.specs.Prelude.{All}
use Rattle.std.specs.List.Sorted.{IsNonDecreasingBy}
use Rattle.std.proofs.lemmas.List.{length-map, get_or-map}
use Rattle.std.proofs.Math.Seq.{take-append_seam}
use mathlib.Core.Logic.{dite}
use native.Mathlib.Decide.{dec_lt}
use Rattle.version_root.specs.Public.{IsPrefix}
use Rattle.versions.proofs.Prefixes.{prefix_trans}
use Rattle.batch_store.specs.Journal.{submitted_in}
use Rattle.batch_store.specs.Keeping.{Keeping, SameStore}
use Rattle.batch_store.specs.Calling.{Calling, SameCaller}
use Rattle.batch_store.specs.Round.{AreCallersOf, AreSame, KeepsBatches, EndsRound}
use Rattle.batch_store.proofs.Rounds.{callers_stay}
use Rattle.serve_text.specs.declared.record.Record.{Record}
use Rattle.serve_text.specs.Records.{Answered, batches_of, reads_of, records_of}
use Rattle.serve_text.specs.Texts.{reply_line}
use Rattle.serve_text.proofs.Orders.{all_of_each, none_of_key}
use Rattle.serve_text.proofs.Growing.{reads_of-nil, lines_stay}
use Rattle.serve_text.proofs.Merging.{Merges, merged}
use Rattle.serve_callers.specs.Running.{HasRun}
use Rattle.serve_callers.specs.Weaving.{AreLinesOf, Weaves}
use Rattle.serve_callers.proofs.Runs.{prefix_length, same_callers}
use Rattle.serve_callers.proofs.Turns.{same_stores}
use Rattle.serve_rounds.specs.Rounds.{IsBetweenRounds, HaveRun, PlaysRound}

-- a list that was lent whole and given back
lent_whole : {A : Type 0} (items new : List A) (len : ℕ) → len ≡ length new → take len (new ++ drop (length new) items) ≡ new
lent_whole items new len e = ap (λ (n : ℕ). take n (new ++ drop (length new) items)) e ∙ take-append_seam new (drop (length new) items)

some : {A : Type 0} (xs : List A) → 0 < length xs → A
some [] h = absurd (omega (arith, h))
some (x ∷ xs) h = x

module _ {S O : Type 0} where
  pub all_same : (a b c : List (Calling S O)) → AreSame a b → AreSame b c → AreSame a c
  all_same a b c p q = record {
    count = q.count ∙ p.count;
    each = λ i e h. same_callers (get_or a i e) (get_or b i e) (get_or c i e) (p.each i e h) (q.each i e (omega (arith, h, p.count)));
  }

module _ {S O Q : Type 0} (step : S → O → S) (answer : S → Q → List ℕ) (round : List (Record O Q)) (s0 s1 : Keeping S O) (c0 : List (Calling S O))
    (ran : List (Calling S O × List (List ℕ))) (between : IsBetweenRounds s0 c0) (have : HaveRun step answer round c0 ran) where
  c1 : List (Calling S O)
  c1 = map (λ (r : Calling S O × List (List ℕ)). r.0) ran

  run_at : (i : ℕ) (e : Calling S O) (d : Calling S O × List (List ℕ)) → i < length c0
      → HasRun step answer (records_of i round) (get_or c0 i e) (get_or ran i d).0 (get_or ran i d).1
  run_at i e d h =
      subst (λ (n : ℕ). HasRun step answer (records_of n round) (get_or c0 i e) (get_or ran i d).0 (get_or ran i d).1) (between.callers_are.at.number i e h) (have.each i e d h)

  after_at : (i : ℕ) (e : Calling S O) (d : Calling S O × List (List ℕ)) → i < length c0
      → get_or (map (λ (r : Calling S O × List (List ℕ)). r.0) ran) i e ≡ (get_or ran i d).0
  after_at i e d h = get_or-map (λ (r : Calling S O × List (List ℕ)). r.0) ran i d e (omega (arith, h, have.count))

  same_ran : AreSame c0 (map (λ (r : Calling S O × List (List ℕ)). r.0) ran)
  same_ran = record {
    count = length-map ran (λ (r : Calling S O × List (List ℕ)). r.0) ∙ have.count;
    each = λ i e h. subst (λ (c : Calling S O). SameCaller (get_or c0 i e) c) (sym (after_at i e (e, []) h)) (run_at i e (e, []) h).same;
  }

  -- they are the callers of the store that has made its turns
  pub still_callers : SameStore s0 s1 → AreCallersOf s1 (map (λ (r : Calling S O × List (List ℕ)). r.0) ran)
  still_callers same = callers_stay same same_ran between.callers_are

  module _ (s2 : Keeping S O) (c2 : List (Calling S O)) (few : All (λ (r : Record O Q). r.caller < length c0) round) (same : SameStore s0 s1)
      (begins : IsPrefix s0.journal s1.journal) (keeps : KeepsBatches s1 s2 (map (λ (r : Calling S O × List (List ℕ)). r.0) ran) c2)
      (ends : EndsRound s1 s2 (map (λ (r : Calling S O × List (List ℕ)). r.0) ran) c2) where
    -- what a caller has answered, or nothing under a number that no caller has
    record Own (c : ℕ) : Type 0 where
      reads : List (Answered Q)
      asked : map (λ (a : Answered Q). a.asked) reads ≡ reads_of (records_of c round)
      least : All (λ (a : Answered Q). length s0.journal ≤ a.number) reads
      most : All (λ (a : Answered Q). a.number ≤ length s2.journal) reads
      rise : IsNonDecreasingBy (λ (a : Answered Q). a.number) reads
      lines_are : (d : List (List ℕ)) → c < length c0 → get_or (map (λ (r : Calling S O × List (List ℕ)). r.1) ran) c d ≡ map (reply_line step answer s0.base s2.journal) reads

    own_here : (c : ℕ) → c < length c0 → Own c
    own_here c h =
        let e : Calling S O = some c0 (omega (arith, h)) in
        let d : Calling S O × List (List ℕ) = (e, []) in
        let w = run_at c e d h in
        let before : Calling S O = get_or c0 c e in
        let after : Calling S O = (get_or ran c d).0 in
        let had : before.reader.seen ≡ s0.journal = between.seen c e h in
        let based : before.reader.base ≡ s0.base = between.callers_are.base c e h in
        let inside : c < length (map (λ (r : Calling S O × List (List ℕ)). r.0) ran) = omega (arith, h, same_ran.count) in
        let front : IsPrefix after.reader.seen s2.journal = subst (λ (x : Calling S O). IsPrefix x.reader.seen s2.journal) (after_at c e d h) (ends.had_seen c e inside) in
        let shorter : length after.reader.seen ≤ length s2.journal = prefix_length after.reader.seen s2.journal front in
        let begun : length before.reader.seen ≡ length s0.journal = ap length had in
        record {
          reads = w.reads;
          asked = w.asked;
          least = λ i x inside. omega (arith, w.least i x inside, begun);
          most = λ i x inside. omega (arith, w.most i x inside, shorter);
          rise = w.rise;
          lines_are = λ x within.
              get_or-map (λ (r : Calling S O × List (List ℕ)). r.1) ran c d x (omega (arith, h, have.count))
              ∙ w.lines_are
              ∙ ap (λ (b : S). map (reply_line step answer b after.reader.seen) w.reads) based
              ∙ sym (lines_stay step answer s0.base after.reader.seen s2.journal w.reads front w.most);
        }

    own_none : (c : ℕ) → length c0 ≤ c → Own c
    own_none c h = record {
      reads = [];
      asked = sym (ap reads_of (none_of_key (λ (r : Record O Q). r.caller) (length c0) c round h few) ∙ reads_of-nil O Q);
      least = λ i x inside. absurd (omega (arith, inside));
      most = λ i x inside. absurd (omega (arith, inside));
      rise = λ i j x h inside. absurd (omega (arith, inside));
      lines_are = λ x within. absurd (omega (arith, h, within));
    }

    own : (c : ℕ) → Own c
    own c = dite (dec_lt c (length c0)) (λ h. own_here c h) (λ h. own_none c (omega arith))

    all : Merges round (λ c. (own c).reads)
    all = merged round (λ c. (own c).reads) (λ c. (own c).asked)

    told_at : AreSame (map (λ (r : Calling S O × List (List ℕ)). r.0) ran) c2
    told_at = record { count = keeps.told_are.count; each = λ i e h. (keeps.told_are.each i e h).same }

    sent_at : (i : ℕ) (e : Calling S O) → i < length c2 → (get_or c2 i e).sent ≡ (get_or c0 i e).sent ++ map submitted_in (batches_of (records_of i round))
    sent_at i e h =
        let inside : i < length c0 = omega (arith, h, same_ran.count, keeps.told_are.count) in
        (keeps.told_are.each i e (omega (arith, h, keeps.told_are.count))).sent
        ∙ ap (λ (c : Calling S O). c.sent) (after_at i e (e, []) inside)
        ∙ (run_at i e (e, []) inside).sent

    are_lines : AreLinesOf (reply_line step answer s0.base s2.journal) all.reads (map (λ (r : Calling S O × List (List ℕ)). r.1) ran)
    are_lines = record {
      each = λ c d h.
          let long : length (map (λ (r : Calling S O × List (List ℕ)). r.1) ran) ≡ length c0 = length-map ran (λ (r : Calling S O × List (List ℕ)). r.1) ∙ have.count in
          (own c).lines_are d (omega (arith, h, long)) ∙ ap (map (reply_line step answer s0.base s2.journal)) (sym (all.each c));
    }

    pub played : (text longer : List ℕ) → Weaves round (map (λ (r : Calling S O × List (List ℕ)). r.1) ran) text longer
        → PlaysRound step answer round s0 s2 c0 c2 text longer
    played text longer woven =
        let long : length (map (λ (r : Calling S O × List (List ℕ)). r.1) ran) ≡ length c0 = length-map ran (λ (r : Calling S O × List (List ℕ)). r.1) ∙ have.count in
        record {
          same = same_stores s0 s1 s2 same keeps.same;
          same_callers = all_same c0 (map (λ (r : Calling S O × List (List ℕ)). r.0) ran) c2 same_ran told_at;
          between = record { callers_are = keeps.callers_are; pending = ends.publishes.pending; all = ends.all; count = ends.count; seen = ends.seen };
          begins = prefix_trans begins ends.begins;
          sent = sent_at;
          reads = all.reads;
          asked = all.asked;
          least = all_of_each (λ (a : Answered Q). length s0.journal ≤ a.number) (λ (a : Answered Q). a.asked.caller) all.reads
              (λ c. subst (All (λ (a : Answered Q). length s0.journal ≤ a.number)) (sym (all.each c)) (own c).least);
          most = all_of_each (λ (a : Answered Q). a.number ≤ length s2.journal) (λ (a : Answered Q). a.asked.caller) all.reads
              (λ c. subst (All (λ (a : Answered Q). a.number ≤ length s2.journal)) (sym (all.each c)) (own c).most);
          rise = λ c. subst (IsNonDecreasingBy (λ (a : Answered Q). a.number)) (sym (all.each c)) (own c).rise;
          text_is = woven.is (reply_line step answer s0.base s2.journal) all.reads (λ i d h. omega (arith, few i d h, long)) all.asked are_lines;
        }

-- the same where callers and lines were lent as slices
pub played_lent : {S O Q : Type 0} (step : S → O → S) (answer : S → Q → List ℕ) (round : List (Record O Q)) (s0 s1 s2 : Keeping S O) (c0 c1 lent c2 : List (Calling S O))
    (ran : List (Calling S O × List (List ℕ))) (lines lent_lines : List (List (List ℕ))) (len : ℕ) (text longer : List ℕ)
    → IsBetweenRounds s0 c0 → All (λ (r : Record O Q). r.caller < length c0) round → HaveRun step answer round c0 ran
    → SameStore s0 s1 × IsPrefix s0.journal s1.journal
    → c1 ≡ map (λ (r : Calling S O × List (List ℕ)). r.0) ran → lent ≡ c1 → length lent ≡ len → KeepsBatches s1 s2 lent c2 → EndsRound s1 s2 lent c2
    → lines ≡ map (λ (r : Calling S O × List (List ℕ)). r.1) ran → lent_lines ≡ lines → Weaves round lent_lines text longer
    → PlaysRound step answer round s0 s2 c0 (take len (c2 ++ drop (length c2) c1)) text longer
played_lent {S} {O} {Q} step answer round s0 s1 s2 c0 c1 lent c2 ran lines lent_lines len text longer between few have same is_callers is_lent long keeps ends is_lines are_lent woven =
    let whole : lent ≡ map (λ (r : Calling S O × List (List ℕ)). r.0) ran = is_lent ∙ is_callers in
    let all_lines : lent_lines ≡ map (λ (r : Calling S O × List (List ℕ)). r.1) ran = are_lent ∙ is_lines in
    let told : len ≡ length c2 = omega (arith, long, keeps.told_are.count) in
    subst (λ (l : List (Calling S O)). PlaysRound step answer round s0 s2 c0 l text longer) (sym (lent_whole c1 c2 len told))
    (played step answer round s0 s1 c0 ran between have s2 c2 few same.0 same.1
    (subst (λ (l : List (Calling S O)). KeepsBatches s1 s2 l c2) whole keeps)
    (subst (λ (l : List (Calling S O)). EndsRound s1 s2 l c2) whole ends)
    text longer (subst (λ (l : List (List (List ℕ))). Weaves round l text longer) all_lines woven))
