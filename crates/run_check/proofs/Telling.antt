-- What lines tell, and the text of a history.
use Rattle.std.proofs.Common.{◌≡◌, ◌∙◌, ℕ, suc, ◌+◌, List, [], ◌∷◌, ◌++◌, length, map, take, refl, sym, ap, subst, arith, append_assoc}
use Rattle.std.specs.Prelude.{All}
use Rattle.std.specs.List.{flat_map}
use Rattle.std.proofs.lemmas.List.{append_cancel_left, length-map, take-map}
use Rattle.versions.specs.declared.batch.Entry.{Entry}
use Rattle.versions.specs.History.{after, batches_in}
use Rattle.serve_text.specs.declared.record.Record.{Record}
use Rattle.serve_text.specs.Records.{Asked, Answered, reads_of}
use Rattle.serve_text.specs.Determined.{HasNoLineFeed}
use Rattle.serve_text.specs.Texts.{line_feed, reply_head, reply_line, replies_text, order_line, order_text, serve_text}
use Rattle.serve_text.proofs.Decimals.{first_stop}
use Rattle.run_text.specs.Forms.{HasForm, Told, told_line, told_text, numbers_text, Tells}
use Rattle.run_check.specs.Reading.{AreRight, answer_to, answers_told, asked_in, numbers_in, numbers_told, places_told}
use Rattle.run_check.specs.Verdicts.{IsNamed, numbers_of, places_of}
use Rattle.run_check.proofs.Judging.{map_twice}

-- a text is what it tells
pub is_told : (places : List ℕ) (told : List Told) (order last text : List ℕ) → Tells places told order last text → text ≡ told_text told order last
is_told places told order last text tells = tells.form.is ∙ (λ i. flat_map told_line (tells.told_is i) ++ (numbers_text 1 order ++ tells.last_is i))

-- a line, with what stands behind it
behind : (head answer rest us : List ℕ) → ((head ++ (answer ++ line_feed ∷ [])) ++ rest) ++ us ≡ head ++ (answer ++ line_feed ∷ (rest ++ us))
behind head answer rest us = simp append_assoc

pub order_of : {O : Type 0} (place : ℕ) (journal : List (Entry O)) → order_text place journal ≡ numbers_text place (numbers_of journal)
order_of place [] = refl
order_of place (e ∷ es) = ap (λ (l : List ℕ). order_line place e.tag ++ l) (order_of (place + 1) es)

module _ {Q : Type 0} (answer : Answered Q → List ℕ) where
  abbrev places_in : List (Answered Q) → List ℕ
  places_in reads = map (λ (a : Answered Q). a.asked.place) reads

  abbrev line_by : Answered Q → List ℕ
  line_by a = reply_head a.asked.place a.number ++ (answer a ++ line_feed ∷ [])

  -- lines that tell what is answered are those of the reads
  same_lines : (reads : List (Answered Q)) (told : List Told) → places_told told ≡ places_in reads → numbers_told told ≡ numbers_in reads → answers_told told ≡ map answer reads
      → flat_map told_line told ≡ flat_map line_by reads
  same_lines [] [] places numbers answers = refl
  same_lines [] (t ∷ told) places numbers answers = absurd (let z : t.place ∷ places_told told ≡ [] = places in cc)
  same_lines (a ∷ reads) [] places numbers answers = absurd (let z : [] ≡ a.asked.place ∷ places_in reads = places in cc)
  same_lines (a ∷ reads) (t ∷ told) places numbers answers =
      let p : t.place ∷ places_told told ≡ a.asked.place ∷ places_in reads = places in
      let n : t.number ∷ numbers_told told ≡ a.number ∷ numbers_in reads = numbers in
      let s : t.answer ∷ answers_told told ≡ answer a ∷ map answer reads = answers in
      let place : t.place ≡ a.asked.place = cc in
      let number : t.number ≡ a.number = cc in
      let own : t.answer ≡ answer a = cc in
      let rest = same_lines reads told (cc) (cc) (cc) in
      λ i. (reply_head (place i) (number i) ++ (own i ++ line_feed ∷ [])) ++ rest i

  -- lines of one text tell one list of answers
  same_answers : ((a : Answered Q) → HasNoLineFeed (answer a)) → (reads : List (Answered Q)) (told : List Told) (us vs : List ℕ) → places_told told ≡ places_in reads → numbers_told told ≡ numbers_in reads
      → All (λ (t : Told). HasNoLineFeed t.answer) told → flat_map told_line told ++ us ≡ flat_map line_by reads ++ vs → (answers_told told ≡ map answer reads) × (us ≡ vs)
  same_answers law [] [] us vs places numbers in_line is = (refl, is)
  same_answers law [] (t ∷ told) us vs places numbers in_line is = absurd (let z : t.place ∷ places_told told ≡ [] = places in cc)
  same_answers law (a ∷ reads) [] us vs places numbers in_line is = absurd (let z : [] ≡ a.asked.place ∷ places_in reads = places in cc)
  same_answers law (a ∷ reads) (t ∷ told) us vs places numbers in_line is =
      let p : t.place ∷ places_told told ≡ a.asked.place ∷ places_in reads = places in
      let n : t.number ∷ numbers_told told ≡ a.number ∷ numbers_in reads = numbers in
      let place : t.place ≡ a.asked.place = cc in
      let number : t.number ≡ a.number = cc in
      let later_places : places_told told ≡ places_in reads = cc in
      let later_numbers : numbers_told told ≡ numbers_in reads = cc in
      let whole : reply_head t.place t.number ++ (t.answer ++ line_feed ∷ (flat_map told_line told ++ us)) ≡ reply_head a.asked.place a.number ++ (answer a ++ line_feed ∷ (flat_map line_by reads ++ vs)) =
      sym (behind (reply_head t.place t.number) t.answer (flat_map told_line told) us) ∙ is ∙ behind (reply_head a.asked.place a.number) (answer a) (flat_map line_by reads) vs in
      let heads : reply_head a.asked.place a.number ≡ reply_head t.place t.number = λ i. reply_head (sym place i) (sym number i) in
      let tails = append_cancel_left (reply_head a.asked.place a.number) (t.answer ++ line_feed ∷ (flat_map told_line told ++ us)) (answer a ++ line_feed ∷ (flat_map line_by reads ++ vs))
      (ap (λ (l : List ℕ). l ++ (t.answer ++ line_feed ∷ (flat_map told_line told ++ us))) heads ∙ whole) in
      let parts = first_stop line_feed t.answer (answer a) (flat_map told_line told ++ us) (flat_map line_by reads ++ vs) (in_line 0 t (omega arith)) (law a) tails in
      let rest = same_answers law reads told us vs later_places later_numbers (λ k d h. in_line (suc k) d (omega (arith, h))) parts.1 in
      ((λ i. parts.0 i ∷ rest.0 i), rest.1)

module _ {O Q : Type 0} (records : List (Record O Q)) (reads : List (Answered Q)) (told : List Told) (order end text : List ℕ)
    (asked : asked_in reads ≡ reads_of records) (numbers : numbers_in reads ≡ numbers_told told) (tells : Tells (places_of records) told order end text) where
  -- the numbers that a text tells are those of a run
  pub is_named : IsNamed records reads order text
  is_named = record { asked = asked; form = subst (λ (l : List ℕ). HasForm (places_of records) l order text) (sym numbers) tells.form }

  pub places_same : places_told told ≡ map (λ (a : Answered Q). a.asked.place) reads
  places_same =
      ap places_told (sym tells.told_is) ∙ tells.form.places_are ∙ ap (map (λ (q : Asked Q). q.place)) (sym asked)
      ∙ map_twice (λ (a : Answered Q). a.asked) (λ (q : Asked Q). q.place) reads

  pub told_in_line : All (λ (t : Told). HasNoLineFeed t.answer) told
  told_in_line = subst (All (λ (t : Told). HasNoLineFeed t.answer)) tells.told_is tells.form.answers_in_line

  pub as_many : length told ≡ length reads
  as_many = sym (length-map told (λ (t : Told). t.number)) ∙ sym (ap length numbers) ∙ length-map reads (λ (a : Answered Q). a.number)

module _ {S O Q : Type 0} (step : S → O → S) (answer : S → Q → List ℕ) (last : S → List ℕ) (base : S) (journal : List (Entry O)) (reads : List (Answered Q)) (told : List Told) (order end : List ℕ)
    (places : places_told told ≡ map (λ (a : Answered Q). a.asked.place) reads) (numbers : numbers_told told ≡ numbers_in reads) (ordered : numbers_of journal ≡ order) where
  abbrev own : Answered Q → List ℕ
  own = answer_to step answer base (batches_in journal)

  line_is : (a : Answered Q) → reply_line step answer base journal a ≡ line_by own a
  unfolding reply_line
  line_is a = ap (λ (l : List (List O)). reply_head a.asked.place a.number ++ (answer (after step base l) a.asked.query ++ line_feed ∷ [])) (sym (take-map (λ (e : Entry O). e.batch) a.number journal))

  lines_are : (rs : List (Answered Q)) → replies_text step answer base journal rs ≡ flat_map (line_by own) rs
  lines_are [] = refl
  lines_are (a ∷ rs) = λ i. line_is a i ++ lines_are rs i

  order_is : order_text 1 journal ≡ numbers_text 1 order
  order_is = order_of 1 journal ∙ ap (numbers_text 1) ordered

  pub right_text : AreRight step answer last base (batches_in journal) reads told end → told_text told order end ≡ serve_text step answer last base reads journal
  right_text right =
      let lines : flat_map told_line told ≡ replies_text step answer base journal reads = same_lines own reads told places numbers right.answers ∙ sym (lines_are reads) in
      λ i. lines i ++ (sym order_is i ++ right.ends i)

  pub text_right : ((state : S) (query : Q) → HasNoLineFeed (answer state query)) → All (λ (t : Told). HasNoLineFeed t.answer) told → told_text told order end ≡ serve_text step answer last base reads journal
      → AreRight step answer last base (batches_in journal) reads told end
  text_right law in_line is =
      let final : List ℕ = last (after step base (batches_in journal)) in
      let both = same_answers own (λ a. law (after step base (take a.number (batches_in journal))) a.asked.query) reads told (numbers_text 1 order ++ end) (order_text 1 journal ++ final) places numbers in_line
      (is ∙ ap (λ (l : List ℕ). l ++ (order_text 1 journal ++ final)) (lines_are reads)) in
      record {
        answers = both.0;
        ends = append_cancel_left (numbers_text 1 order) end final (both.1 ∙ ap (λ (l : List ℕ). l ++ final) order_is);
      }
