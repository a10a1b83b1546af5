-- From what is tested to the verdict.
use Rattle.std.proofs.Common.{◌≡◌, ℕ, ◌<◌, List, length, take, refl, sym, subst, arith}
use Rattle.std.specs.List.Sorted.{IsPermutation}
use Rattle.std.proofs.lemmas.List.Sorted.{IsPermutation-map}
use Rattle.versions.specs.declared.batch.Entry.{Entry}
use Rattle.serve_text.specs.declared.record.Record.{Record}
use Rattle.serve_text.specs.Records.{Answered, batches_of, before, entries_of}
use Rattle.serve_text.specs.Histories.{AreInRounds}
use Rattle.serve_text.specs.Determined.{AreNumbered}
use Rattle.serve_text.specs.Texts.{serve_text}
use Rattle.run_check.specs.declared.placed.Placed.{Placed}
use Rattle.run_check.specs.Placing.{placed_of, entries_in, tags_of}
use Rattle.run_check.specs.Passing.{Passes, IsLeastFailing}
use Rattle.run_check.specs.Verdicts.{IsNamed, IsOrdered, Holds, IsRun, FailsAt, numbers_of}
use Rattle.run_check.proofs.Judging.{numbers_are, in_this_order, one_journal, callers_hold, callers_rise, rounds_hold, rounds_up, of_their_rounds, counts_of_rounds}

module _ {S O Q : Type 0} (step : S → O → S) (answer : S → Q → List ℕ) (last : S → List ℕ) (base : S) (callers : ℕ) (records : List (Record O Q)) (numbered : AreNumbered records) (in_rounds : AreInRounds callers records)
    (text : List ℕ) (reads : List (Answered Q)) (order : List ℕ) (named : IsNamed records reads order text) where
  abbrev HoldsAt : ℕ → Type 0
  HoldsAt k = Holds step answer last base records text reads order k

  holds_none : (k : ℕ) → k < 1 → HoldsAt k
  holds_none k h = record {
    once = λ e. absurd (omega (arith, h, e));
    callers = λ e. absurd (omega (arith, h, e));
    rounds = λ e. absurd (omega (arith, h, e));
    bounds = λ e. absurd (omega (arith, h, e));
    never_falls = λ e. absurd (omega (arith, h, e));
    text_is = λ e. absurd (omega (arith, h, e));
  }

  -- point 1 does not hold
  pub fails_once : ¬ (IsPermutation (tags_of (placed_of records)) order) → FailsAt step answer last base records text 1
  fails_once other = record {
    reads = reads;
    order = order;
    named = named;
    lesser = holds_none;
    fails = λ h. other (subst (λ (l : List ℕ). IsPermutation l order) (numbers_are callers records numbered in_rounds) (h.once refl));
  }

  module _ (ordered : List (Placed O)) (same : IsPermutation (placed_of records) ordered) (tags : tags_of ordered ≡ order) where
    abbrev PassesAt : ℕ → Type 0
    PassesAt k = Passes (placed_of records) ordered reads k

    once_is : IsPermutation (numbers_of (batches_of records)) order
    once_is =
        subst (λ (l : List ℕ). IsPermutation l order) (sym (numbers_are callers records numbered in_rounds))
        (subst (IsPermutation (tags_of (placed_of records))) tags (IsPermutation-map (λ (p : Placed O). p.entry.tag) (placed_of records) ordered same))

    mine : IsOrdered records order (entries_in ordered)
    mine = in_this_order callers records numbered in_rounds ordered same order tags

    journals : (journal : List (Entry O)) → IsOrdered records order journal → entries_in ordered ≡ journal
    journals journal is = one_journal callers records numbered in_rounds ordered same order journal tags is

    passes_holds : (k : ℕ) → PassesAt k → (k ≡ 6 → text ≡ serve_text step answer last base reads (entries_in ordered)) → HoldsAt k
    passes_holds k passes is = record {
      once = λ e. once_is;
      callers = λ e journal o c. subst (λ (l : List (Entry O)). entries_of c l ≡ entries_of c (batches_of records)) (journals journal o) (callers_hold callers records numbered in_rounds ordered same (passes.callers e) c);
      rounds = λ e journal o k. subst (λ (l : List (Entry O)). IsPermutation (batches_of (before k records)) (take (length (batches_of (before k records))) l)) (journals journal o) (rounds_hold callers records numbered in_rounds ordered same (passes.rounds e) k);
      bounds = λ e. of_their_rounds callers records numbered in_rounds reads (passes.bounds e);
      never_falls = λ e. passes.never_falls e;
      text_is = λ e journal o. subst (λ (l : List (Entry O)). text ≡ serve_text step answer last base reads l) (journals journal o) (is e);
    }

    holds_passes : (k : ℕ) → HoldsAt k → PassesAt k
    holds_passes k holds = record {
      callers = λ e. callers_rise callers records numbered in_rounds ordered same (holds.callers e (entries_in ordered) mine);
      rounds = λ e. rounds_up callers records numbered in_rounds ordered same (holds.rounds e (entries_in ordered) mine);
      bounds = λ e. counts_of_rounds callers records numbered in_rounds reads (holds.bounds e);
      never_falls = λ e. holds.never_falls e;
    }

    -- one of the points 2 to 5 does not hold
    pub fails_at : (point : ℕ) → IsLeastFailing PassesAt point → FailsAt step answer last base records text point
    fails_at point least = record {
      reads = reads;
      order = order;
      named = named;
      lesser = λ k h. passes_holds k (least.lesser k h) (λ e. absurd (omega (arith, e, h, least.high)));
      fails = λ holds. least.fails (holds_passes point holds);
    }

    -- all points hold
    pub runs : ((k : ℕ) → PassesAt k) → text ≡ serve_text step answer last base reads (entries_in ordered) → IsRun step answer last base records text
    runs passes is = record { reads = reads; order = order; named = named; all = λ k. passes_holds k (passes k) (λ e. is) }

    -- point 6 does not hold
    pub fails_text : ((k : ℕ) → PassesAt k) → ¬ (text ≡ serve_text step answer last base reads (entries_in ordered)) → FailsAt step answer last base records text 6
    fails_text passes other = record {
      reads = reads;
      order = order;
      named = named;
      lesser = λ k h. passes_holds k (passes k) (λ e. absurd (omega (arith, e, h)));
      fails = λ holds. other (holds.text_is refl (entries_in ordered) mine);
    }
