-- A text determines the history that it is of.
use Rattle.std.proofs.Common.{◌≡◌, ◌∙◌, ℕ, suc, ◌<◌, ◌≤◌, ◌+◌, ◌^◌, List, [], ◌∷◌, ◌++◌, length, get_or, map, take, decimal, refl, sym, ap, subst, arith, append_assoc}
use Rattle.std.specs.Prelude.{All, codes, nat_le}
use Rattle.std.specs.List.{AllPairs}
use Rattle.std.proofs.lemmas.List.{append_cancel_left}
use Rattle.std.proofs.lemmas.List.Elements.{All-append, All-cons, All-nil}
use Rattle.std.proofs.lemmas.List.Sorted.{All-permutation, length_permutation}
use Rattle.versions.specs.declared.batch.Entry.{Entry}
use Rattle.versions.specs.History.{history, state_of}
use Rattle.serve_text.specs.declared.record.Record.{Record}
use Rattle.serve_text.specs.declared.record.Act.{Act}
use Rattle.serve_text.specs.declared.record.Act.TheVariants.{Submit, Read}
use Rattle.serve_text.specs.Records.{Asked, Answered, batch_by, batches_of}
use Rattle.serve_text.specs.Histories.{IsLawfulHistory}
use Rattle.serve_text.specs.Texts.{comma, line_feed, reply_head, reply_line, replies_text, order_line, order_text, IsServeText}
use Rattle.serve_text.specs.Determined.{AreNumbered, HasNoLineFeed}
use Rattle.serve_text.proofs.Decimals.{first_stop, number_before}
use Rattle.serve_text.proofs.Growing.{batches_of-nil, batches_of-cons, fewer_batches}
use Rattle.serve_text.proofs.Merging.{asked_in}
use Rattle.serve_text.proofs.Keys.{pairs_nil, pairs_cons, pairs_head, pairs_tail, few_keys, same_order}

tails : (x : ℕ) (xs ys : List ℕ) → x ∷ xs ≡ x ∷ ys → xs ≡ ys
tails x xs ys e = cc

-- a read's line, with what stands behind it
reply_before : (place number : ℕ) (text rest : List ℕ) → (reply_head place number ++ (text ++ line_feed ∷ [])) ++ rest
    ≡ codes "r," ++ (decimal place ++ (comma ∷ (decimal number ++ comma ∷ (text ++ line_feed ∷ rest))))
reply_before place number text rest = simp append_assoc

one_reply : (place m n : ℕ) (s t us vs : List ℕ) → m < 10 ^ 64 → n < 10 ^ 64 → HasNoLineFeed s → HasNoLineFeed t
    → (reply_head place m ++ (s ++ line_feed ∷ [])) ++ us ≡ (reply_head place n ++ (t ++ line_feed ∷ [])) ++ vs → (m ≡ n) × (us ≡ vs)
one_reply place m n s t us vs p q line_s line_t e =
    let whole = sym (reply_before place m s us) ∙ e ∙ reply_before place n t vs in
    let behind = append_cancel_left (codes "r,") (decimal place ++ (comma ∷ (decimal m ++ comma ∷ (s ++ line_feed ∷ us)))) (decimal place ++ (comma ∷ (decimal n ++ comma ∷ (t ++ line_feed ∷ vs)))) whole in
    let numbers = append_cancel_left (decimal place) (comma ∷ (decimal m ++ comma ∷ (s ++ line_feed ∷ us))) (comma ∷ (decimal n ++ comma ∷ (t ++ line_feed ∷ vs))) behind in
    let answers = number_before comma m n (s ++ line_feed ∷ us) (t ++ line_feed ∷ vs) (omega arith) p q (tails comma _ _ numbers) in
    (answers.0, (first_stop line_feed s t us vs line_s line_t answers.1).1)

-- a batch's line, with what stands behind it
order_before : (place number : ℕ) (rest : List ℕ) → order_line place number ++ rest ≡ codes "j," ++ (decimal place ++ (comma ∷ (decimal number ++ line_feed ∷ rest)))
order_before place number rest = simp append_assoc

one_batch : (place m n : ℕ) (us vs : List ℕ) → m < 10 ^ 64 → n < 10 ^ 64 → order_line place m ++ us ≡ order_line place n ++ vs → (m ≡ n) × (us ≡ vs)
one_batch place m n us vs p q e =
    let whole = sym (order_before place m us) ∙ e ∙ order_before place n vs in
    let behind = append_cancel_left (codes "j,") (decimal place ++ (comma ∷ (decimal m ++ line_feed ∷ us))) (decimal place ++ (comma ∷ (decimal n ++ line_feed ∷ vs))) whole in
    let numbers = append_cancel_left (decimal place) (comma ∷ (decimal m ++ line_feed ∷ us)) (comma ∷ (decimal n ++ line_feed ∷ vs)) behind in
    number_before line_feed m n us vs (omega arith) p q (tails comma _ _ numbers)

abbrev tag_of : {O : Type 0} → Entry O → ℕ
tag_of e = e.tag

-- as many lines of batches tell their tags
same_tags : {O : Type 0} (place : ℕ) (es fs : List (Entry O)) (us vs : List ℕ) → length es ≡ length fs
    → All (λ (e : Entry O). e.tag < 10 ^ 64) es → All (λ (e : Entry O). e.tag < 10 ^ 64) fs → order_text place es ++ us ≡ order_text place fs ++ vs → map tag_of es ≡ map tag_of fs
same_tags place [] [] us vs count p q e = refl
same_tags place [] (f ∷ fs) us vs count p q e = absurd (omega (arith, count))
same_tags place (e ∷ es) [] us vs count p q is = absurd (omega (arith, count))
same_tags place (e ∷ es) (f ∷ fs) us vs count p q is =
    let line = one_batch place e.tag f.tag (order_text (place + 1) es ++ us) (order_text (place + 1) fs ++ vs) (p 0 e (omega arith)) (q 0 f (omega arith))
    (sym (append_assoc (order_line place e.tag) (order_text (place + 1) es) us) ∙ is ∙ append_assoc (order_line place f.tag) (order_text (place + 1) fs) vs) in
    let rest = same_tags (place + 1) es fs us vs (omega (arith, count)) (λ k d h. p (suc k) d (omega (arith, h))) (λ k d h. q (suc k) d (omega (arith, h))) line.1 in
    λ i. line.0 i ∷ rest i

module _ {O Q : Type 0} where
  -- what holds of the records' numbers holds of the batches' tags
  tag_by : (P : ℕ → Type 0) (caller place : ℕ) (act : Act O Q) → P place → All (λ (e : Entry O). P e.tag) (batch_by caller place act)
  tag_by P caller place (Submit batch) h = All-cons (λ (e : Entry O). P e.tag) _ [] h (All-nil (λ (e : Entry O). P e.tag))
  tag_by P caller place (Read query) h = All-nil (λ (e : Entry O). P e.tag)

  tags_are : (P : ℕ → Type 0) (rs : List (Record O Q)) → All (λ (r : Record O Q). P r.place) rs → All (λ (e : Entry O). P e.tag) (batches_of rs)
  tags_are P [] all = subst (All (λ (e : Entry O). P e.tag)) (sym (batches_of-nil O Q)) (All-nil (λ (e : Entry O). P e.tag))
  tags_are P (r ∷ rs) all =
      subst (All (λ (e : Entry O). P e.tag)) (sym (batches_of-cons r rs))
      (All-append (λ (e : Entry O). P e.tag) (batch_by r.caller r.place r.act) (batches_of rs)
      (tag_by P r.caller r.place r.act (all 0 r (omega arith)))
      (tags_are P rs (λ k d h. all (suc k) d (omega (arith, h)))))

  -- so the tags rise
  tags_behind : (caller place : ℕ) (act : Act O Q) (es : List (Entry O)) → All (λ (e : Entry O). place < e.tag) es → AllPairs (λ (e f : Entry O). e.tag < f.tag) es
      → AllPairs (λ (e f : Entry O). e.tag < f.tag) (batch_by caller place act ++ es)
  tags_behind caller place (Submit batch) es behind rise = pairs_cons (λ (e f : Entry O). e.tag < f.tag) _ es behind rise
  tags_behind caller place (Read query) es behind rise = rise

  tags_rise : (rs : List (Record O Q)) → AllPairs (λ (r s : Record O Q). r.place < s.place) rs → AllPairs (λ (e f : Entry O). e.tag < f.tag) (batches_of rs)
  tags_rise [] rise = subst (AllPairs (λ (e f : Entry O). e.tag < f.tag)) (sym (batches_of-nil O Q)) (pairs_nil (λ (e f : Entry O). e.tag < f.tag))
  tags_rise (r ∷ rs) rise =
      subst (AllPairs (λ (e f : Entry O). e.tag < f.tag)) (sym (batches_of-cons r rs))
      (tags_behind r.caller r.place r.act (batches_of rs)
      (tags_are (λ n. r.place < n) rs (pairs_head (λ (a b : Record O Q). a.place < b.place) r rs rise))
      (tags_rise rs (pairs_tail (λ (a b : Record O Q). a.place < b.place) r rs rise)))

  module _ (records : List (Record O Q)) (numbered : AreNumbered records) (reads : List (Answered Q)) (journal : List (Entry O)) (lawful : IsLawfulHistory records reads journal) where
    few_tags : All (λ (e : Entry O). e.tag < 2 ^ 64) (batches_of records)
    few_tags = tags_are (λ n. n < 2 ^ 64) records numbered.fit

    few_batches : length (batches_of records) ≤ 2 ^ 64
    few_batches = omega (arith, few_keys (λ (e : Entry O). e.tag) 0 (2 ^ 64) (batches_of records) (omega arith) (tags_rise records numbered.rise) (λ k d h. omega arith) few_tags)

    small_tags : All (λ (e : Entry O). e.tag < 10 ^ 64) journal
    small_tags = All-permutation (λ (e : Entry O). e.tag < 10 ^ 64) (batches_of records) journal lawful.once (λ k d h. omega (arith, few_tags k d h))

    small_numbers : All (λ (a : Answered Q). a.number < 10 ^ 64) reads
    small_numbers k d h =
        let most = (lawful.bounds k d h).most in
        let fewer = fewer_batches (λ (r : Record O Q). nat_le r.round (get_or reads k d).asked.round) records in
        omega (arith, few_batches, most, fewer)

module _ {S O Q : Type 0} (step : S → O → S) (answer : S → Q → List ℕ) (last : S → List ℕ) (base : S)
    (lines : (state : S) (query : Q) → HasNoLineFeed (answer state query)) where
  -- the lines of the same questions tell the numbers
  one_line : (first second : List (Entry O)) (a b : Answered Q) (us vs : List ℕ) → a.asked ≡ b.asked → a.number < 10 ^ 64 → b.number < 10 ^ 64
      → reply_line step answer base first a ++ us ≡ reply_line step answer base second b ++ vs → (a.number ≡ b.number) × (us ≡ vs)
  unfolding reply_line
  one_line first second a b us vs same p q e =
      let s = answer (state_of step (history base (take a.number first))) a.asked.query in
      let t = answer (state_of step (history base (take b.number second))) b.asked.query in
      one_reply a.asked.place a.number b.number s t us vs p q (lines _ _) (lines _ _)
      (e ∙ ap (λ (c : Asked Q). (reply_head c.place b.number ++ (t ++ line_feed ∷ [])) ++ vs) (sym same))

  same_replies : (first second : List (Entry O)) (reads others : List (Answered Q)) (us vs : List ℕ) → asked_in reads ≡ asked_in others
      → All (λ (a : Answered Q). a.number < 10 ^ 64) reads → All (λ (a : Answered Q). a.number < 10 ^ 64) others
      → replies_text step answer base first reads ++ us ≡ replies_text step answer base second others ++ vs → (reads ≡ others) × (us ≡ vs)
  same_replies first second [] [] us vs asked p q e = (refl, e)
  same_replies first second [] (b ∷ others) us vs asked p q e = absurd (let z : [] ≡ b.asked ∷ asked_in others = asked in cc)
  same_replies first second (a ∷ reads) [] us vs asked p q e = absurd (let z : a.asked ∷ asked_in reads ≡ [] = asked in cc)
  same_replies first second (a ∷ reads) (b ∷ others) us vs asked p q e =
      let z : a.asked ∷ asked_in reads ≡ b.asked ∷ asked_in others = asked in
      let question : a.asked ≡ b.asked = cc in
      let questions : asked_in reads ≡ asked_in others = cc in
      let s = replies_text step answer base first reads in
      let t = replies_text step answer base second others in
      let line = one_line first second a b (s ++ us) (t ++ vs) question (p 0 a (omega arith)) (q 0 b (omega arith))
      (sym (append_assoc (reply_line step answer base first a) s us) ∙ e ∙ append_assoc (reply_line step answer base second b) t vs) in
      let rest = same_replies first second reads others us vs questions (λ k d h. p (suc k) d (omega (arith, h))) (λ k d h. q (suc k) d (omega (arith, h))) line.1 in
      ((λ i. record { asked = question i; number = line.0 i } ∷ rest.0 i), rest.1)

  -- two histories of the same numbered records with one text are the same
  pub determined : (records : List (Record O Q)) → AreNumbered records → (text : List ℕ) (a b : IsServeText step answer last base records text) → (a.reads ≡ b.reads) × (a.journal ≡ b.journal)
  determined records numbered text a b =
      let rest = λ (journal : List (Entry O)). order_text 1 journal ++ last (state_of step (history base journal)) in
      let replies = same_replies a.journal b.journal a.reads b.reads (rest a.journal) (rest b.journal) (a.lawful.asked ∙ sym b.lawful.asked)
      (small_numbers records numbered a.reads a.journal a.lawful) (small_numbers records numbered b.reads b.journal b.lawful) (sym a.is ∙ b.is) in
      let count : length a.journal ≡ length b.journal = length_permutation _ _ a.lawful.once ∙ sym (length_permutation _ _ b.lawful.once) in
      let tags = same_tags 1 a.journal b.journal (last (state_of step (history base a.journal))) (last (state_of step (history base b.journal))) count
      (small_tags records numbered a.reads a.journal a.lawful) (small_tags records numbered b.reads b.journal b.lawful) replies.1 in
      (replies.0, same_order (λ (e : Entry O). e.tag) (batches_of records) a.journal b.journal (tags_rise records numbered.rise) a.lawful.once b.lawful.once tags)
