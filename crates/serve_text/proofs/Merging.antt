-- The answered reads of many callers, put in record order.
use Rattle.std.proofs.Common.{◌≡◌, ◌==◌, ℕ, true, false, cond, List, [], ◌∷◌, ◌++◌, map, inl, inr, refl, sym, ap, ◌∙◌, eq-eqb}
use Rattle.std.proofs.lemmas.Bool.Decides.{eqb_tells}
use Rattle.serve_text.specs.declared.record.Record.{Record}
use Rattle.serve_text.specs.declared.record.Act.{Act}
use Rattle.serve_text.specs.declared.record.Act.TheVariants.{Submit, Read}
use Rattle.serve_text.specs.Records.{Asked, Answered, read_by, reads_of, records_of, answered_of}
use Rattle.serve_text.proofs.Orders.{filter_yes, filter_no}
use Rattle.serve_text.proofs.Growing.{reads_of-cons, reads_of-nil}

module _ {Q : Type 0} where
  abbrev pub asked_in : List (Answered Q) → List (Asked Q)
  asked_in reads = map (λ (a : Answered Q). a.asked) reads

  -- the first of the reads answers this question
  pub record IsHead (q : Asked Q) (qs : List (Asked Q)) (reads : List (Answered Q)) : Type 0 where
    pub first : Answered Q
    pub rest : List (Answered Q)
    pub is : reads ≡ first ∷ rest
    pub question_is : first.asked ≡ q
    pub rest_asked : asked_in rest ≡ qs

  pub head_of : (q : Asked Q) (qs : List (Asked Q)) (reads : List (Answered Q)) → asked_in reads ≡ q ∷ qs → IsHead q qs reads
  head_of q qs [] e = absurd (let p : [] ≡ q ∷ qs = e in cc)
  head_of q qs (a ∷ reads) e =
      let p : a.asked ∷ asked_in reads ≡ q ∷ qs = e in
      record { first = a; rest = reads; is = refl; question_is = (let z : a.asked ≡ q = cc in z); rest_asked = (let z : asked_in reads ≡ qs = cc in z) }

  none_asked : (reads : List (Answered Q)) → asked_in reads ≡ [] → [] ≡ reads
  none_asked [] e = refl
  none_asked (a ∷ reads) e = absurd (let p : a.asked ∷ asked_in reads ≡ [] = e in cc)

  -- the lists after the first read of a caller
  abbrev later : ℕ → List (Answered Q) → (ℕ → List (Answered Q)) → ℕ → List (Answered Q)
  later caller rest of c = cond (caller == c) rest (of c)

  later_own : (caller c : ℕ) (rest : List (Answered Q)) (of : ℕ → List (Answered Q)) → (caller == c) ≡ true → later caller rest of c ≡ rest
  later_own caller c rest of e = rw e refl

  later_other : (caller c : ℕ) (rest : List (Answered Q)) (of : ℕ → List (Answered Q)) → (caller == c) ≡ false → later caller rest of c ≡ of c
  later_other caller c rest of e = rw e refl

module _ {O Q : Type 0} where
  abbrev pub question : Record O Q → Q → Asked Q
  question r query = record { place = r.place; caller = r.caller; round = r.round; query = query }

  pub no_read : (r : Record O Q) (rs : List (Record O Q)) (batch : List O) → r.act ≡ Submit batch → reads_of (r ∷ rs) ≡ reads_of rs
  no_read r rs batch is = reads_of-cons r rs ∙ ap (λ (act : Act O Q). read_by r.place r.caller r.round act ++ reads_of rs) is

  pub one_read : (r : Record O Q) (rs : List (Record O Q)) (query : Q) → r.act ≡ Read query → reads_of (r ∷ rs) ≡ question r query ∷ reads_of rs
  one_read r rs query is = reads_of-cons r rs ∙ ap (λ (act : Act O Q). read_by r.place r.caller r.round act ++ reads_of rs) is

  pub record Merges (records : List (Record O Q)) (of : ℕ → List (Answered Q)) : Type 0 where
    pub reads : List (Answered Q)
    pub asked : asked_in reads ≡ reads_of records
    pub each : (c : ℕ) → answered_of c reads ≡ of c

  -- a record that is no read
  skipped : (r : Record O Q) (rs : List (Record O Q)) (batch : List O) → r.act ≡ Submit batch → (c : ℕ) → reads_of (records_of c (r ∷ rs)) ≡ reads_of (records_of c rs)
  skipped r rs batch is c =
      elim (eqb_tells r.caller c) [
        | inl q ↦ ap reads_of (filter_yes (λ (x : Record O Q). x.caller == c) r rs q.0) ∙ no_read r (records_of c rs) batch is
        | inr q ↦ ap reads_of (filter_no (λ (x : Record O Q). x.caller == c) r rs q.0)
      ]

  own_head : (r : Record O Q) (rs : List (Record O Q)) (of : ℕ → List (Answered Q)) (query : Q) → r.act ≡ Read query
      → ((c : ℕ) → asked_in (of c) ≡ reads_of (records_of c (r ∷ rs))) → IsHead (question r query) (reads_of (records_of r.caller rs)) (of r.caller)
  own_head r rs of query is match =
      head_of (question r query) (reads_of (records_of r.caller rs)) (of r.caller)
      (match r.caller ∙ ap reads_of (filter_yes (λ (x : Record O Q). x.caller == r.caller) r rs (eq-eqb r.caller r.caller refl)) ∙ one_read r (records_of r.caller rs) query is)

  later_match : (r : Record O Q) (rs : List (Record O Q)) (of : ℕ → List (Answered Q)) (query : Q) → r.act ≡ Read query
      → ((c : ℕ) → asked_in (of c) ≡ reads_of (records_of c (r ∷ rs)))
      → (h : IsHead (question r query) (reads_of (records_of r.caller rs)) (of r.caller))
      → (c : ℕ) → asked_in (later r.caller h.rest of c) ≡ reads_of (records_of c rs)
  later_match r rs of query is match h c =
      elim (eqb_tells r.caller c) [
        | inl q ↦ ap asked_in (later_own r.caller c h.rest of q.0) ∙ h.rest_asked ∙ ap (λ (n : ℕ). reads_of (records_of n rs)) q.1
        | inr q ↦ ap asked_in (later_other r.caller c h.rest of q.0) ∙ match c ∙ ap reads_of (filter_no (λ (x : Record O Q). x.caller == c) r rs q.0)
      ]

  each_more : (r : Record O Q) (of : ℕ → List (Answered Q)) (a : Answered Q) (rest reads : List (Answered Q)) → a.asked.caller ≡ r.caller → of r.caller ≡ a ∷ rest
      → ((c : ℕ) → answered_of c reads ≡ later r.caller rest of c) → (c : ℕ) → answered_of c (a ∷ reads) ≡ of c
  each_more r of a rest reads own is each c =
      elim (eqb_tells r.caller c) [
        | inl q ↦
            filter_yes (λ (x : Answered Q). x.asked.caller == c) a reads (ap (λ (n : ℕ). n == c) own ∙ q.0)
            ∙ ap (λ (l : List (Answered Q)). a ∷ l) (each c ∙ later_own r.caller c rest of q.0)
            ∙ sym is
            ∙ ap of q.1
        | inr q ↦
            filter_no (λ (x : Answered Q). x.asked.caller == c) a reads (ap (λ (n : ℕ). n == c) own ∙ q.0)
            ∙ each c
            ∙ later_other r.caller c rest of q.0
      ]

  merge_on : (r : Record O Q) (rs : List (Record O Q)) (of : ℕ → List (Answered Q)) → ((c : ℕ) → asked_in (of c) ≡ reads_of (records_of c (r ∷ rs)))
      → ((next : ℕ → List (Answered Q)) → ((c : ℕ) → asked_in (next c) ≡ reads_of (records_of c rs)) → Merges rs next)
      → (act : Act O Q) → r.act ≡ act → Merges (r ∷ rs) of
  merge_on r rs of match go (Submit batch) is =
      let w = go of (λ c. match c ∙ skipped r rs batch is c) in
      record { reads = w.reads; asked = w.asked ∙ sym (no_read r rs batch is); each = w.each }
  merge_on r rs of match go (Read query) is =
      let h = own_head r rs of query is match in
      let w = go (later r.caller h.rest of) (later_match r rs of query is match h) in
      record {
        reads = h.first ∷ w.reads;
        asked = ap (λ (q : Asked Q). q ∷ asked_in w.reads) h.question_is ∙ ap (λ (l : List (Asked Q)). question r query ∷ l) w.asked ∙ sym (one_read r rs query is);
        each = each_more r of h.first h.rest w.reads (ap (λ (q : Asked Q). q.caller) h.question_is) h.is w.each;
      }

  pub merged : (records : List (Record O Q)) (of : ℕ → List (Answered Q)) → ((c : ℕ) → asked_in (of c) ≡ reads_of (records_of c records)) → Merges records of
  merged [] of match = record { reads = []; asked = sym (reads_of-nil O Q); each = λ c. none_asked (of c) (match c ∙ reads_of-nil O Q) }
  merged (r ∷ rs) of match = merge_on r rs of match (merged rs) r.act refl
