-- One record after another, and the lines of its caller.
use Rattle.std.proofs.Common.{◌≡◌, ◌==◌, ℕ, zero, suc, ◌<◌, ◌≤◌, ◌+◌, true, false, List, [], ◌∷◌, ◌++◌, length, map, drop, get_or, inl, inr, refl, sym, ap, ◌∙◌, subst, arith, append_assoc, eq-eqb}
use Rattle.std.specs.List.{flat_map}
use Rattle.std.proofs.lemmas.Bool.Decides.{eqb_tells}
use Rattle.std.proofs.lemmas.Grind.{flat_map-append}
use Rattle.std.proofs.lemmas.List.{append-nil, get_or_default, get_or-set_other}
use Rattle.std.proofs.lemmas.Grind.{get_or-set_at}
use Rattle.std.proofs.Math.ListN.{set, length-set}
use Rattle.serve_text.specs.declared.record.Record.{Record}
use Rattle.serve_text.specs.declared.record.Act.TheVariants.{Submit, Read}
use Rattle.serve_text.specs.Records.{Asked, Answered, reads_of, answered_of}
use Rattle.serve_text.proofs.Orders.{filter_yes, filter_no}
use Rattle.serve_text.proofs.Growing.{reads_of-nil}
use Rattle.serve_text.proofs.Merging.{asked_in, question, no_read, one_read, head_of}
use Rattle.serve_callers.specs.Weaving.{WritesFirst, AreLinesOf, WeavesTo, Weaves, WeavesSome, WeavesOne}

dropped : {A : Type 0} (k : ℕ) (xs : List A) (d : A) → k < length xs → drop k xs ≡ get_or xs k d ∷ drop (k + 1) xs
dropped k [] d h = absurd (omega (arith, h))
dropped zero (x ∷ xs) d h = refl
dropped (suc k) (x ∷ xs) d h = dropped k xs d (omega (arith, h)) ∙ ap (λ (n : ℕ). get_or xs k d ∷ drop n (x ∷ xs)) (let q : suc (k + 1) ≡ suc k + 1 = omega arith in q)

dropped_all : {A : Type 0} (xs : List A) → drop (length xs) xs ≡ []
dropped_all [] = refl
dropped_all (x ∷ xs) = dropped_all xs

pub first_moved : (caller : ℕ) (lines : List (List (List ℕ))) (old now : List (List ℕ)) (text longer : List ℕ) → caller < length lines → old ≡ get_or lines caller old
    → ((line : List ℕ) (rest : List (List ℕ)) → old ≡ line ∷ rest → (now ≡ rest) × (longer ≡ text ++ line)) → WritesFirst caller lines (set lines caller now) text longer
first_moved caller lines old now text longer inside is moved = record {
  count = length-set lines caller now;
  moved = λ line rest d h held.
      let m = moved line rest (is ∙ get_or_default lines caller old d inside ∙ held) in
      (get_or-set_at lines caller caller now d refl inside ∙ m.0, m.1);
  others = λ i d other. get_or-set_other lines caller i now d other;
}

pub none_first : (caller : ℕ) (lines : List (List (List ℕ))) (text : List ℕ) → length lines ≤ caller → WritesFirst caller lines lines text text
none_first caller lines text past = record { count = refl; moved = λ line rest d h held. absurd (omega (arith, h, past)); others = λ i d other. refl }

module _ {O Q : Type 0} (k : ℕ) (records : List (Record O Q)) (r : Record O Q) (inside : k < length records) (here : r ≡ get_or records k r) where
  next : drop k records ≡ r ∷ drop (k + 1) records
  next = dropped k records r inside ∙ ap (λ (x : Record O Q). x ∷ drop (k + 1) records) (sym here)

  -- no line is due
  pub to_skip : (line : Answered Q → List ℕ) (reads : List (Answered Q)) (lines : List (List (List ℕ))) (text longer : List ℕ) (batch : List O) → r.act ≡ Submit batch
      → WeavesTo k records line reads lines text longer → WeavesTo (k + 1) records line reads lines text longer
  to_skip line reads lines text longer batch is w = record {
    written = w.written;
    waiting = w.waiting;
    both = w.both;
    asked = w.asked ∙ ap reads_of next ∙ no_read r (drop (k + 1) records) batch is;
    lines_are = w.lines_are;
    text_is = w.text_is;
  }

  after_first : (line : Answered Q → List ℕ) (a : Answered Q) (rest : List (Answered Q)) (lines now : List (List (List ℕ))) (text longer : List ℕ)
      → a.asked.caller ≡ r.caller → r.caller < length lines → AreLinesOf line (a ∷ rest) lines → WritesFirst r.caller lines now text longer
      → (c : ℕ) (d : List (List ℕ)) → c < length now → get_or now c d ≡ map line (answered_of c rest)
  after_first line a rest lines now text longer own few are w c d h =
      elim (eqb_tells r.caller c) [
        | inl q ↦
            let mine : (a.asked.caller == r.caller) ≡ true = eq-eqb a.asked.caller r.caller own in
            let held : get_or lines r.caller d ≡ line a ∷ map line (answered_of r.caller rest) =
            are.each r.caller d few ∙ ap (map line) (filter_yes (λ (x : Answered Q). x.asked.caller == r.caller) a rest mine) in
            subst (λ (n : ℕ). get_or now n d ≡ map line (answered_of n rest)) q.1 (w.moved (line a) (map line (answered_of r.caller rest)) d few held).0
        | inr q ↦
            let other : (a.asked.caller == c) ≡ false = ap (λ (n : ℕ). n == c) own ∙ q.0 in
            w.others c d (λ z. q.1 (sym z)) ∙ are.each c d (omega (arith, h, w.count)) ∙ ap (map line) (filter_no (λ (x : Answered Q). x.asked.caller == c) a rest other)
      ]

  -- the line of a read is written
  pub to_write : (line : Answered Q → List ℕ) (reads : List (Answered Q)) (lines now : List (List (List ℕ))) (text longer longest : List ℕ) (query : Q) → r.act ≡ Read query
      → r.caller < length lines → WritesFirst r.caller lines now longer longest
      → WeavesTo k records line reads lines text longer → WeavesTo (k + 1) records line reads now text longest
  to_write line reads lines now text longer longest query is few w so_far =
      let h = head_of (question r query) (reads_of (drop (k + 1) records)) so_far.waiting (so_far.asked ∙ ap reads_of next ∙ one_read r (drop (k + 1) records) query is) in
      let own : h.first.asked.caller ≡ r.caller = ap (λ (q : Asked Q). q.caller) h.question_is in
      let are : AreLinesOf line (h.first ∷ h.rest) lines = subst (λ (l : List (Answered Q)). AreLinesOf line l lines) h.is so_far.lines_are in
      let held : get_or lines r.caller [] ≡ line h.first ∷ map line (answered_of r.caller h.rest) =
      are.each r.caller [] few ∙ ap (map line) (filter_yes (λ (x : Answered Q). x.asked.caller == r.caller) h.first h.rest (eq-eqb h.first.asked.caller r.caller own)) in
      let moved : longest ≡ longer ++ line h.first = (w.moved (line h.first) (map line (answered_of r.caller h.rest)) [] few held).1 in
      record {
        written = so_far.written ++ h.first ∷ [];
        waiting = h.rest;
        both = so_far.both ∙ ap (λ (l : List (Answered Q)). so_far.written ++ l) h.is ∙ sym (append_assoc so_far.written (h.first ∷ []) h.rest);
        asked = h.rest_asked;
        lines_are = record { each = after_first line h.first h.rest lines now longer longest own few are w };
        text_is = moved ∙ ap (λ (l : List ℕ). l ++ line h.first) so_far.text_is ∙ append_assoc text (flat_map line so_far.written) (line h.first)
            ∙ ap (λ (l : List ℕ). text ++ l) (ap (λ (l : List ℕ). flat_map line so_far.written ++ l) (sym (append-nil (line h.first))) ∙ sym (flat_map-append line so_far.written (h.first ∷ [])));
      }

  pub some_skip : (lines now : List (List (List ℕ))) (text longer : List ℕ) (batch : List O) → r.act ≡ Submit batch
      → WeavesSome k records lines now text longer → WeavesSome (k + 1) records lines now text longer
  some_skip lines now text longer batch is w = record { count = w.count; is = λ line reads few asked are. to_skip line reads now text longer batch is (w.is line reads few asked are) }

  pub some_write : (lines now after : List (List (List ℕ))) (text longer longest : List ℕ) (query : Q) → r.act ≡ Read query → WritesFirst r.caller now after longer longest
      → WeavesSome k records lines now text longer → WeavesSome (k + 1) records lines after text longest
  some_write lines now after text longer longest query is first w = record {
    count = first.count ∙ w.count;
    is = λ line reads few asked are.
        let mine : get_or records k r ≡ r = sym here in
        let below : r.caller < length lines = subst (λ (x : Record O Q). x.caller < length lines) mine (few k r inside) in
        to_write line reads now after text longer longest query is (omega (arith, below, w.count)) first (w.is line reads few asked are);
  }

module _ {O Q : Type 0} (records : List (Record O Q)) where
  pub some_none : (lines : List (List (List ℕ))) (text : List ℕ) → WeavesSome 0 records lines lines text text
  some_none lines text = record { count = refl; is = λ line reads few asked are. record { written = []; waiting = reads; both = refl; asked = asked; lines_are = are; text_is = sym (append-nil text) } }

  empty : (reads : List (Answered Q)) → asked_in reads ≡ [] → reads ≡ []
  empty [] e = refl
  empty (a ∷ reads) e = absurd (let p : a.asked ∷ asked_in reads ≡ [] = e in cc)

  pub some_all : (lines now : List (List (List ℕ))) (text longer : List ℕ) → WeavesSome (length records) records lines now text longer → Weaves records lines text longer
  some_all lines now text longer w = record {
    is = λ line reads few asked are.
        let e = w.is line reads few asked are in
        let none : e.waiting ≡ [] = empty e.waiting (e.asked ∙ ap reads_of (dropped_all records) ∙ reads_of-nil O Q) in
        let all : e.written ≡ reads = sym (append-nil e.written) ∙ ap (λ (l : List (Answered Q)). e.written ++ l) (sym none) ∙ sym e.both in
        e.text_is ∙ ap (λ (l : List (Answered Q)). text ++ flat_map line l) all;
  }

module _ {O Q : Type 0} where
  pub one_skip : (r : Record O Q) (lines : List (List (List ℕ))) (text : List ℕ) (batch : List O) → r.act ≡ Submit batch → WeavesOne r lines lines text text
  one_skip r lines text batch is = record { on = λ k records first start inside here w. some_skip k records r inside here first lines start text batch is w }

  pub one_write : (r : Record O Q) (lines now : List (List (List ℕ))) (text longer : List ℕ) (query : Q) → r.act ≡ Read query → WritesFirst r.caller lines now text longer
      → WeavesOne r lines now text longer
  one_write r lines now text longer query is first = record { on = λ k records at start inside here w. some_write k records r inside here at lines now start text longer query is first w }

module _ {O Q : Type 0} where
  pub at_end : (records : List (Record O Q)) (k : ℕ) (lines now : List (List (List ℕ))) (text longer : List ℕ) → k ≡ length records
      → WeavesSome k records lines now text longer → Weaves records lines text longer
  at_end records k lines now text longer e w = some_all records lines now text longer (subst (λ (n : ℕ). WeavesSome n records lines now text longer) e w)
