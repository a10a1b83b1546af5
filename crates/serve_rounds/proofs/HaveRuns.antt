-- Callers that have run, one after another and by halves.
use Rattle.std.proofs.Common.{◌≡◌, ℕ, zero, suc, ◌<◌, ◌≤◌, ◌-◌, List, [], ◌∷◌, ◌++◌, length, get_or, inl, inr, refl, sym, ◌∙◌, subst, arith}
use Rattle.std.specs.Prelude.{◌⊎◌}
use Rattle.std.proofs.lemmas.List.{length-append}
use Rattle.batch_store.specs.Calling.{Calling}
use Rattle.serve_text.specs.declared.record.Record.{Record}
use Rattle.serve_text.specs.Records.{records_of}
use Rattle.serve_text.proofs.Orders.{side, front_at, back_at}
use Rattle.serve_callers.specs.Running.{HasRun}
use Rattle.version_root.specs.Public.{IsPrefix}
use Rattle.versions.proofs.Prefixes.{head_is}
use Rattle.batch_store.specs.Keeping.{Keeping, SameStore}
use Rattle.serve_rounds.specs.Rounds.{Follows, HaveRun}

module _ {S O Q : Type 0} (step : S → O → S) (answer : S → Q → List ℕ) (records : List (Record O Q)) where
  Runs : Calling S O → Calling S O × List (List ℕ) → Type 0
  Runs caller ran = HasRun step answer (records_of caller.number records) caller ran.0 ran.1

  pub ran_none : HaveRun step answer records [] []
  ran_none = record { count = refl; each = λ i e d h. absurd (omega (arith, h)) }

  only : (caller : Calling S O) (ran : Calling S O × List (List ℕ)) → HasRun step answer (records_of caller.number records) caller ran.0 ran.1
      → (i : ℕ) (e : Calling S O) (d : Calling S O × List (List ℕ)) → i < length (caller ∷ [])
      → HasRun step answer (records_of (get_or (caller ∷ []) i e).number records) (get_or (caller ∷ []) i e) (get_or (ran ∷ []) i d).0 (get_or (ran ∷ []) i d).1
  only caller ran h zero e d inside = h
  only caller ran h (suc i) e d inside = absurd (omega (arith, inside))

  pub ran_one : (caller : Calling S O) (ran : Calling S O × List (List ℕ)) → HasRun step answer (records_of caller.number records) caller ran.0 ran.1
      → HaveRun step answer records (caller ∷ []) (ran ∷ [])
  ran_one caller ran h = record { count = refl; each = only caller ran h }

  module _ (xs ys : List (Calling S O)) (a b : List (Calling S O × List (List ℕ))) (p : HaveRun step answer records xs a) (q : HaveRun step answer records ys b) where
    at_place : (i : ℕ) (e : Calling S O) (d : Calling S O × List (List ℕ)) → i < length (xs ++ ys) → (i < length xs) ⊎ (length xs ≤ i)
        → HasRun step answer (records_of (get_or (xs ++ ys) i e).number records) (get_or (xs ++ ys) i e) (get_or (a ++ b) i d).0 (get_or (a ++ b) i d).1
    at_place i e d h (inl front) =
        subst (λ (r : Calling S O × List (List ℕ)). HasRun step answer (records_of (get_or (xs ++ ys) i e).number records) (get_or (xs ++ ys) i e) r.0 r.1) (sym (front_at a b i d (omega (arith, front, p.count))))
        (subst (λ (c : Calling S O). HasRun step answer (records_of c.number records) c (get_or a i d).0 (get_or a i d).1) (sym (front_at xs ys i e front)) (p.each i e d front))
    at_place i e d h (inr back) =
        let from_a : get_or (a ++ b) i d ≡ get_or b (i - length a) d = back_at a b i d (omega (arith, back, p.count)) in
        let from_b : get_or (a ++ b) i d ≡ get_or b (i - length xs) d = subst (λ (n : ℕ). get_or (a ++ b) i d ≡ get_or b (i - n) d) p.count from_a in
        subst (λ (r : Calling S O × List (List ℕ)). HasRun step answer (records_of (get_or (xs ++ ys) i e).number records) (get_or (xs ++ ys) i e) r.0 r.1) (sym from_b)
        (subst (λ (c : Calling S O). HasRun step answer (records_of c.number records) c (get_or b (i - length xs) d).0 (get_or b (i - length xs) d).1) (sym (back_at xs ys i e back))
        (q.each (i - length xs) e d (omega (arith, h, back, length-append xs ys))))

    pub ran_both : HaveRun step answer records (xs ++ ys) (a ++ b)
    ran_both = record {
      count = omega (arith, length-append xs ys, length-append a b, p.count, q.count);
      each = λ i e d h. at_place i e d h (side i (length xs));
    }

  -- the callers of two halves
  pub ran_halves : (callers front back : List (Calling S O)) (a b all : List (Calling S O × List (List ℕ))) → front ++ back ≡ callers
      → HaveRun step answer records front a → HaveRun step answer records back b → all ≡ a ++ b → HaveRun step answer records callers all
  ran_halves callers front back a b all cut p q is =
      subst (λ (l : List (Calling S O)). HaveRun step answer records l all) cut
      (subst (λ (l : List (Calling S O × List (List ℕ))). HaveRun step answer records (front ++ back) l) (sym is) (ran_both front back a b p q))

-- the one store of a list of one
pub follows_one : {S O : Type 0} (store later : Keeping S O) (stores : List (Keeping S O)) → Follows store stores → stores ≡ later ∷ [] → SameStore store later × IsPrefix store.journal later.journal
follows_one store later stores f is =
    let same : f.0 ≡ later = head_is f.0 later [] [] (sym f.1 ∙ is) in
    (subst (λ (k : Keeping _ _). SameStore store k) same f.2, subst (λ (k : Keeping _ _). IsPrefix store.journal k.journal) same f.3)
