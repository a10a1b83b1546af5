-- A text gets one verdict, and yes exactly where it is that of a lawful history.
use Rattle.std.proofs.Common.{◌≡◌, ◌∙◌, ℕ, suc, ◌<◌, ◌≤◌, ◌+◌, ◌^◌, ◌==◌, List, [], ◌∷◌, ◌++◌, length, get_or, map, filter, take, refl, sym, ap, subst, arith}
use Rattle.std.specs.Prelude.{All, nat_le}
use Rattle.std.specs.List.{AllPairs, flat_map}
use Rattle.std.specs.List.Sorted.{IsPermutation}
use Rattle.std.proofs.lemmas.List.{length-append}
use Rattle.std.proofs.lemmas.List.Elements.{All-cons, All-nil, All-map}
use Rattle.std.proofs.lemmas.List.Sorted.{All-permutation, IsPermutation-map}
use Rattle.versions.specs.declared.batch.Entry.{Entry}
use Rattle.versions.specs.History.{history, state_of}
use Rattle.serve_text.specs.declared.record.Record.{Record}
use Rattle.serve_text.specs.declared.record.Act.{Act}
use Rattle.serve_text.specs.declared.record.Act.TheVariants.{Submit, Read}
use Rattle.serve_text.specs.Records.{Asked, Answered, batch_by, batches_of, before, entries_of}
use Rattle.serve_text.specs.Histories.{AreInRounds}
use Rattle.serve_text.specs.Determined.{AreNumbered, HasNoLineFeed, IsLastLine}
use Rattle.serve_text.specs.Texts.{reply_line, replies_text, serve_text, IsServeText}
use Rattle.serve_text.proofs.Growing.{batches_of-nil, batches_of-cons, fewer_batches}
use Rattle.serve_text.proofs.Keys.{same_order}
use Rattle.run_text.specs.Forms.{Told, told_line, IsNumber, HasForm}
use Rattle.run_check.specs.Placing.{placed_of}
use Rattle.run_check.specs.declared.verdict.Verdict.{Verdict}
use Rattle.run_check.specs.declared.verdict.Verdict.TheVariants.{Yes}
use Rattle.run_check.specs.Verdicts.{numbers_of, places_of, IsOrdered, IsRun, IsTheVerdict, IsVerdict}
use Rattle.run_check.proofs.Keyed.{each_only, keyed_permutation}
use Rattle.run_check.proofs.Placings.{placed_all}
use Rattle.run_check.proofs.Judging.{batches_rise, numbers_are, map_twice}
use Rattle.run_check.proofs.OneVerdict.{one_verdict}
use Rattle.run_check.proofs.Telling.{order_of}

module _ {O : Type 0} (es : List (Entry O)) where
  abbrev pub IsSole : Entry O → Type 0
  IsSole e = filter (λ (f : Entry O). f.tag == e.tag) es ≡ e ∷ []

  record HasSole (n : ℕ) : Type 0 where
    entry : Entry O
    tag_is : entry.tag ≡ n
    sole : IsSole entry

  record Arranged (order : List ℕ) : Type 0 where
    journal : List (Entry O)
    numbers : numbers_of journal ≡ order
    sole : All IsSole journal

  arranged : (order : List ℕ) → All HasSole order → Arranged order
  arranged [] all = record { journal = []; numbers = refl; sole = All-nil IsSole }
  arranged (n ∷ order) all =
      let first = all 0 n (omega arith) in
      let rest = arranged order (λ k d h. all (suc k) d (omega (arith, h))) in
      record { journal = first.entry ∷ rest.journal; numbers = (λ i. first.tag_is i ∷ rest.numbers i); sole = All-cons IsSole first.entry rest.journal first.sole rest.sole }

  in_this : (order : List ℕ) → AllPairs (λ (e f : Entry O). e.tag < f.tag) es → IsPermutation (numbers_of es) order → Arranged order
  in_this order rise perm =
      arranged order (All-permutation HasSole (numbers_of es) order perm
      (All-map HasSole (λ (e : Entry O). e.tag) es (λ k d h. record { entry = get_or es k d; tag_is = refl; sole = each_only (λ (e : Entry O). e.tag) es rise k d h })))

module _ {S O Q : Type 0} (step : S → O → S) (answer : S → Q → List ℕ) (last : S → List ℕ) (base : S) (callers : ℕ) (records : List (Record O Q)) (numbered : AreNumbered records) (in_rounds : AreInRounds callers records) (text : List ℕ) where
  -- what gets yes is the text of a lawful history
  pub run_serves : IsRun step answer last base records text → IsServeText step answer last base records text
  run_serves run =
      let once = (run.all 1).once refl in
      let found = in_this (batches_of records) run.order (batches_rise callers records numbered in_rounds) once in
      let perm : IsPermutation (batches_of records) found.journal =
      keyed_permutation (λ (e : Entry O). e.tag) (batches_of records) found.journal found.sole (subst (IsPermutation (numbers_of (batches_of records))) (sym found.numbers) once) in
      let ordered : IsOrdered records run.order found.journal = record { once = perm; numbers = found.numbers } in
      record {
        reads = run.reads;
        journal = found.journal;
        lawful = record {
          asked = run.named.asked;
          once = perm;
          callers = (run.all 2).callers refl found.journal ordered;
          rounds = (run.all 3).rounds refl found.journal ordered;
          bounds = (run.all 4).bounds refl;
          never_falls = (run.all 5).never_falls refl;
        };
        is = (run.all 6).text_is refl found.journal ordered;
      }

  module _ (in_lines : (state : S) (query : Q) → HasNoLineFeed (answer state query)) (last_lines : (state : S) → IsLastLine (last state)) (few : length records < 2 ^ 64) where
    abbrev told_of : List (Entry O) → Answered Q → Told
    told_of journal a = record { place = a.asked.place; number = a.number; answer = answer (state_of step (history base (take a.number journal))) a.asked.query }

    lines_of : (journal : List (Entry O)) (reads : List (Answered Q)) → replies_text step answer base journal reads ≡ flat_map told_line (map (told_of journal) reads)
    unfolding reply_line
    lines_of journal [] = refl
    lines_of journal (a ∷ reads) = ap (λ (l : List ℕ). told_line (told_of journal a) ++ l) (lines_of journal reads)

    one_batch : (caller place : ℕ) (act : Act O Q) → length (batch_by caller place act) ≤ 1
    one_batch caller place (Submit batch) = omega arith
    one_batch caller place (Read query) = omega arith

    batches_few : (rs : List (Record O Q)) → length (batches_of rs) ≤ length rs
    batches_few [] = let z = ap length (batches_of-nil O Q) in omega (arith, z)
    batches_few (r ∷ rs) =
        let whole = ap length (batches_of-cons r rs) ∙ length-append (batch_by r.caller r.place r.act) (batches_of rs) in
        let first = one_batch r.caller r.place r.act in
        omega (arith, batches_few rs, whole, first)

    -- the text of a lawful history gets yes
    pub serves_run : IsServeText step answer last base records text → IsRun step answer last base records text
    serves_run w =
        let end = last_lines (state_of step (history base w.journal)) in
        let numbers = map (λ (a : Answered Q). a.number) w.reads in
        let order = numbers_of w.journal in
        let fit_reads : All (λ (a : Answered Q). IsNumber a.number) w.reads = λ k d h.
        let most = (w.lawful.bounds k d h).most in
        let part = fewer_batches (λ (r : Record O Q). nat_le r.round (get_or w.reads k d).asked.round) records in
        omega (arith, most, part, batches_few records, few) in
        let tags : All IsNumber (numbers_of (batches_of records)) =
        subst (All IsNumber) (sym (numbers_are callers records numbered in_rounds)) (All-map IsNumber (λ p. p.entry.tag) (placed_of records) (placed_all (λ r c t. IsNumber t) records numbered.fit)) in
        let same = IsPermutation-map (λ (e : Entry O). e.tag) (batches_of records) w.journal w.lawful.once in
        let form : HasForm (places_of records) numbers order text = record {
          told = map (told_of w.journal) w.reads;
          totals = end.totals;
          places_are = map_twice (told_of w.journal) (λ (t : Told). t.place) w.reads ∙ sym (map_twice (λ (a : Answered Q). a.asked) (λ (q : Asked Q). q.place) w.reads) ∙ ap (map (λ (q : Asked Q). q.place)) w.lawful.asked;
          numbers_are = map_twice (told_of w.journal) (λ (t : Told). t.number) w.reads;
          is = w.is ∙ (λ i. lines_of w.journal w.reads i ++ (order_of 1 w.journal i ++ end.is i));
          fit = All-map IsNumber (λ (a : Answered Q). a.number) w.reads fit_reads;
          order_fits = All-permutation IsNumber (numbers_of (batches_of records)) order same tags;
          answers_in_line = All-map (λ (t : Told). HasNoLineFeed t.answer) (told_of w.journal) w.reads (λ k d h. in_lines (state_of step (history base (take (get_or w.reads k d).number w.journal))) (get_or w.reads k d).asked.query);
          totals_in_line = end.in_line;
        } in
        let journals : (journal : List (Entry O)) → IsOrdered records order journal → w.journal ≡ journal = λ journal o.
        same_order (λ (e : Entry O). e.tag) (batches_of records) w.journal journal (batches_rise callers records numbered in_rounds) w.lawful.once o.once (sym o.numbers) in
        record {
          reads = w.reads;
          order = order;
          named = record { asked = w.lawful.asked; form = form };
          all = λ k. record {
            once = λ e. same;
            callers = λ e journal o c. subst (λ (l : List (Entry O)). entries_of c l ≡ entries_of c (batches_of records)) (journals journal o) (w.lawful.callers c);
            rounds = λ e journal o m. subst (λ (l : List (Entry O)). IsPermutation (batches_of (before m records)) (take (length (batches_of (before m records))) l)) (journals journal o) (w.lawful.rounds m);
            bounds = λ e. w.lawful.bounds;
            never_falls = λ e. w.lawful.never_falls;
            text_is = λ e journal o. subst (λ (l : List (Entry O)). text ≡ serve_text step answer last base w.reads l) (journals journal o) w.is;
          };
        }

    -- so a verdict is the only one
    pub the_verdict : (v : Verdict) → IsVerdict step answer last base records text v → IsTheVerdict step answer last base records text v
    the_verdict v is = record {
      is = is;
      only = λ other also. one_verdict step answer last base records text other v also is;
      exactly = (
        λ yes. run_serves (subst (IsVerdict step answer last base records text) yes is),
        λ serves. one_verdict step answer last base records text v Yes is (serves_run serves),
      );
    }
