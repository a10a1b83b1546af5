-- What a caller does with one record after another.
use Rattle.std.proofs.Common.{◌≡◌, ◌≢◌, ◌==◌, ℕ, zero, suc, ◌<◌, ◌≤◌, ◌+◌, List, [], ◌∷◌, ◌++◌, length, map, take, get_or, inl, inr, refl, sym, ap, ◌∙◌, subst, arith, append_assoc, eq-eqb}
use Rattle.std.specs.Prelude.{All}
use Rattle.std.proofs.lemmas.List.{append-nil, map-append, length-take}
use Rattle.std.proofs.lemmas.Grind.{common_steps}
use Rattle.std.proofs.lemmas.Bool.Decides.{eqb_tells}
use Rattle.std.proofs.lemmas.List.Elements.{All-append, All-nil, filter-append}
use Rattle.std.proofs.lemmas.List.Sorted.{IsNonDecreasingBy-short}
use Rattle.version_root.specs.Public.{IsPrefix, Entry, Reading, history, state_of}
use Rattle.versions.proofs.Prefixes.{prefix_refl, prefix_trans}
use Rattle.batch_store.specs.declared.submitted.Submitted.{Submitted}
use Rattle.batch_store.specs.Journal.{submitted_in}
use Rattle.batch_store.specs.Calling.{Calling, SameCaller}
use Rattle.serve_text.specs.declared.record.Record.{Record}
use Rattle.serve_text.specs.declared.record.Act.{Act}
use Rattle.serve_text.specs.declared.record.Act.TheVariants.{Submit, Read}
use Rattle.serve_text.specs.Records.{Asked, Answered, batch_by, batches_of, reads_of, records_of}
use Rattle.serve_text.specs.Texts.{reply_head, reply_line, line_feed}
use Rattle.serve_text.proofs.Orders.{rises_append, filter_yes, filter_no}
use Rattle.serve_text.proofs.Growing.{batches_of-append, batches_of-cons, batches_of-nil, reads_of-append, reads_of-nil, lines_stay}
use Rattle.serve_text.proofs.Merging.{one_read, no_read}
use Rattle.serve_callers.specs.Running.{HasRun}

single : {A : Type 0} (P : A → Type 0) (x : A) → P x → All P (x ∷ [])
single P x h zero d inside = h
single P x h (suc k) d inside = absurd (omega (arith, inside))

pub prefix_length : {A : Type 0} (xs ys : List A) → IsPrefix xs ys → length xs ≤ length ys
prefix_length xs ys p = omega (arith, ap length p.is, length-take (length xs) ys)

module _ {S O : Type 0} where
  pub same_callers : (a b c : Calling S O) → SameCaller a b → SameCaller b c → SameCaller a c
  same_callers a b c p q = record {
    number = q.number ∙ p.number;
    lane = q.lane ∙ p.lane;
    reader = record { root = q.reader.root ∙ p.reader.root; base = q.reader.base ∙ p.reader.base; number = q.reader.number ∙ p.reader.number };
  }

module _ {S O Q : Type 0} (step : S → O → S) (answer : S → Q → List ℕ) where
  -- no record was run
  pub run_none : (c : Calling S O) → HasRun {Q = Q} step answer [] c c []
  run_none c = record {
    same = record { number = refl; lane = refl; reader = record { root = refl; base = refl; number = refl } };
    sent = sym (ap (λ (l : List (Entry O)). c.sent ++ map submitted_in l) (batches_of-nil O Q) ∙ append-nil c.sent);
    seen = prefix_refl c.reader.seen;
    reads = [];
    asked = sym (reads_of-nil O Q);
    least = All-nil _;
    most = All-nil _;
    rise = λ i j d h inside. absurd (omega (arith, inside));
    lines_are = refl;
  }

  -- some records, and then others
  pub run_both : (first second : List (Record O Q)) (c0 c1 c2 : Calling S O) (l1 l2 : List (List ℕ))
      → HasRun step answer first c0 c1 l1 → HasRun step answer second c1 c2 l2 → HasRun step answer (first ++ second) c0 c2 (l1 ++ l2)
  run_both first second c0 c1 c2 l1 l2 p q =
      let low : length c0.reader.seen ≤ length c1.reader.seen = prefix_length c0.reader.seen c1.reader.seen p.seen in
      let high : length c1.reader.seen ≤ length c2.reader.seen = prefix_length c1.reader.seen c2.reader.seen q.seen in
      let items : map submitted_in (batches_of (first ++ second)) ≡ map submitted_in (batches_of first) ++ map submitted_in (batches_of second) =
      ap (map submitted_in) (batches_of-append first second) ∙ map-append submitted_in (batches_of first) (batches_of second) in
      let stay : map (reply_line step answer c0.reader.base c2.reader.seen) p.reads ≡ map (reply_line step answer c0.reader.base c1.reader.seen) p.reads =
      lines_stay step answer c0.reader.base c1.reader.seen c2.reader.seen p.reads q.seen p.most in
      record {
        same = same_callers c0 c1 c2 p.same q.same;
        sent = q.sent ∙ ap (λ (l : List (Submitted O)). l ++ map submitted_in (batches_of second)) p.sent
            ∙ append_assoc c0.sent (map submitted_in (batches_of first)) (map submitted_in (batches_of second))
            ∙ ap (λ (l : List (Submitted O)). c0.sent ++ l) (sym items);
        seen = prefix_trans p.seen q.seen;
        reads = p.reads ++ q.reads;
        asked = map-append (λ (a : Answered Q). a.asked) p.reads q.reads
            ∙ ap (λ (l : List (Asked Q)). l ++ map (λ (a : Answered Q). a.asked) q.reads) p.asked
            ∙ ap (λ (l : List (Asked Q)). reads_of first ++ l) q.asked
            ∙ sym (reads_of-append first second);
        least = All-append (λ (a : Answered Q). length c0.reader.seen ≤ a.number) p.reads q.reads p.least (λ k d h. omega (arith, q.least k d h, low));
        most = All-append (λ (a : Answered Q). a.number ≤ length c2.reader.seen) p.reads q.reads (λ k d h. omega (arith, p.most k d h, high)) q.most;
        rise = rises_append (λ (a : Answered Q). a.number) p.reads q.reads p.rise q.rise (length c1.reader.seen) p.most q.least;
        lines_are = ap (λ (l : List (List ℕ)). l ++ l2) p.lines_are
            ∙ ap (λ (l : List (List ℕ)). map (reply_line step answer c0.reader.base c1.reader.seen) p.reads ++ l)
            (q.lines_are ∙ ap (λ (b : S). map (reply_line step answer b c2.reader.seen) q.reads) p.same.reader.base)
            ∙ ap (λ (l : List (List ℕ)). l ++ map (reply_line step answer c0.reader.base c2.reader.seen) q.reads) (sym stay)
            ∙ sym (map-append (reply_line step answer c0.reader.base c2.reader.seen) p.reads q.reads);
      }

  -- a batch was submitted
  pub run_batch : (r : Record O Q) (batch : List O) (c0 c1 : Calling S O) → r.act ≡ Submit batch → SameCaller c0 c1 → c1.reader ≡ c0.reader
      → c1.sent ≡ c0.sent ++ record { tag = r.place; batch = batch } ∷ [] → HasRun step answer (r ∷ []) c0 c1 []
  run_batch r batch c0 c1 is same reader sent =
      let e : Entry O = record { caller = r.caller; tag = r.place; batch = batch } in
      let one : batches_of (r ∷ []) ≡ e ∷ [] =
      batches_of-cons r [] ∙ ap (λ (act : Act O Q). batch_by r.caller r.place act ++ batches_of {O = O} {Q = Q} []) is ∙ ap (λ (l : List (Entry O)). e ∷ l) (batches_of-nil O Q) in
      record {
        same = same;
        sent = sent ∙ ap (λ (l : List (Entry O)). c0.sent ++ map submitted_in l) (sym one);
        seen = subst (λ (v : List (Entry O)). IsPrefix c0.reader.seen v) (sym (ap (λ (v : Reading S O). v.seen) reader)) (prefix_refl c0.reader.seen);
        reads = [];
        asked = sym (no_read r [] batch is ∙ reads_of-nil O Q);
        least = All-nil _;
        most = All-nil _;
        rise = λ i j d h inside. absurd (omega (arith, inside));
        lines_are = refl;
      }

  -- a read was answered
  pub run_read : (r : Record O Q) (query : Q) (c0 c1 : Calling S O) (line : List ℕ) → r.act ≡ Read query → SameCaller c0 c1 → c1.sent ≡ c0.sent
      → IsPrefix c0.reader.seen c1.reader.seen
      → line ≡ reply_head r.place (length c1.reader.seen) ++ (answer (state_of step (history c1.reader.base c1.reader.seen)) query ++ line_feed ∷ [])
      → HasRun step answer (r ∷ []) c0 c1 (line ∷ [])
  unfolding reply_line
  run_read r query c0 c1 line is same sent seen written =
      let asked : Asked Q = record { place = r.place; caller = r.caller; round = r.round; query = query } in
      let read : Answered Q = record { asked = asked; number = length c1.reader.seen } in
      let none : batches_of (r ∷ []) ≡ [] =
      batches_of-cons r [] ∙ ap (λ (act : Act O Q). batch_by r.caller r.place act ++ batches_of {O = O} {Q = Q} []) is ∙ batches_of-nil O Q in
      let whole : take (length c1.reader.seen) c1.reader.seen ≡ c1.reader.seen = (prefix_refl c1.reader.seen).is in
      record {
        same = same;
        sent = sent ∙ sym (ap (λ (l : List (Entry O)). c0.sent ++ map submitted_in l) none ∙ append-nil c0.sent);
        seen = seen;
        reads = read ∷ [];
        asked = sym (one_read r [] query is ∙ ap (λ (l : List (Asked Q)). asked ∷ l) (reads_of-nil O Q));
        least = single (λ (a : Answered Q). length c0.reader.seen ≤ a.number) read (prefix_length c0.reader.seen c1.reader.seen seen);
        most = single (λ (a : Answered Q). a.number ≤ length c1.reader.seen) read (omega arith);
        rise = IsNonDecreasingBy-short (λ (a : Answered Q). a.number) (read ∷ []) (omega arith);
        lines_are = ap (λ (l : List ℕ). l ∷ []) (written
            ∙ ap (λ (b : S). reply_head r.place (length c1.reader.seen) ++ (answer (state_of step (history b c1.reader.seen)) query ++ line_feed ∷ [])) same.reader.base
            ∙ ap (λ (l : List (Entry O)). reply_head r.place (length c1.reader.seen) ++ (answer (state_of step (history c0.reader.base l)) query ++ line_feed ∷ [])) (sym whole));
      }

  -- the caller's own of one record more
  pub run_more : (number : ℕ) (records : List (Record O Q)) (i : ℕ) (r : Record O Q) (c0 c1 c2 : Calling S O) (l1 l2 : List (List ℕ)) → i < length records → r ≡ get_or records i r
      → HasRun step answer (records_of number (take i records)) c0 c1 l1 → HasRun step answer (records_of number (r ∷ [])) c1 c2 l2
      → HasRun step answer (records_of number (take (i + 1) records)) c0 c2 (l1 ++ l2)
  run_more number records i r c0 c1 c2 l1 l2 inside is p q =
      let longer : take (i + 1) records ≡ take i records ++ r ∷ [] = grind (arith, common_steps) in
      let own : records_of number (take (i + 1) records) ≡ records_of number (take i records) ++ records_of number (r ∷ []) =
      ap (records_of number) longer ∙ filter-append (λ (x : Record O Q). x.caller == number) (take i records) (r ∷ []) in
      subst (λ (l : List (Record O Q)). HasRun step answer l c0 c2 (l1 ++ l2)) (sym own) (run_both (records_of number (take i records)) (records_of number (r ∷ [])) c0 c1 c2 l1 l2 p q)

  pub run_mine : (number : ℕ) (r : Record O Q) (c0 c1 : Calling S O) (lines : List (List ℕ)) → r.caller ≡ number → HasRun step answer (r ∷ []) c0 c1 lines
      → HasRun step answer (records_of number (r ∷ [])) c0 c1 lines
  run_mine number r c0 c1 lines own h = subst (λ (l : List (Record O Q)). HasRun step answer l c0 c1 lines) (sym (filter_yes (λ (x : Record O Q). x.caller == number) r [] (eq-eqb r.caller number own))) h

  pub run_other : (number : ℕ) (r : Record O Q) (c : Calling S O) → r.caller ≢ number → HasRun step answer (records_of number (r ∷ [])) c c []
  run_other number r c other =
      elim (eqb_tells r.caller number) [
        | inl q ↦ absurd (other q.1)
        | inr q ↦ subst (λ (l : List (Record O Q)). HasRun step answer l c c []) (sym (filter_no (λ (x : Record O Q). x.caller == number) r [] q.0)) (run_none c)
      ]
