-- Batches with their rounds, from the records.
use Rattle.std.proofs.Common.{◌≡◌, ◌∙◌, ℕ, suc, ◌<◌, ◌+◌, Bool, true, false, List, [], ◌∷◌, ◌++◌, length, get_or, filter, take, refl, sym, ap, subst, inl, inr, arith}
use Rattle.std.specs.Prelude.{All}
use Rattle.std.specs.List.{AllPairs}
use Rattle.std.proofs.lemmas.Bool.{cases_Bool}
use Rattle.std.proofs.lemmas.Grind.{flat_map-append, take_at_read}
use Rattle.std.proofs.lemmas.List.{append-nil, map-append}
use Rattle.std.proofs.lemmas.List.Elements.{All-append, All-push, All-cons, All-nil, filter-append}
use Rattle.versions.specs.declared.batch.Entry.{Entry}
use Rattle.serve_text.specs.declared.record.Record.{Record}
use Rattle.serve_text.specs.declared.record.Act.{Act}
use Rattle.serve_text.specs.declared.record.Act.TheVariants.{Submit, Read}
use Rattle.serve_text.specs.Records.{batch_by, batches_of}
use Rattle.serve_text.proofs.Growing.{batches_of-nil, batches_of-cons}
use Rattle.serve_text.proofs.Orders.{filter_yes, filter_no}
use Rattle.serve_text.proofs.Keys.{pairs_nil, pairs_cons, pairs_head, pairs_tail}
use Rattle.run_check.specs.declared.placed.Placed.{Placed}
use Rattle.run_check.specs.Placing.{placed_by, placed_of, entries_in, tags_of, IsOnlyOf}

pub placed_of-nil : (O Q : Type 0) → placed_of {O = O} {Q = Q} [] ≡ []
unfolding placed_of
placed_of-nil O Q = refl

module _ {O Q : Type 0} where
  pub placed_of-cons : (r : Record O Q) (rs : List (Record O Q)) → placed_of (r ∷ rs) ≡ placed_by r.round r.caller r.place r.act ++ placed_of rs
  unfolding placed_of
  placed_of-cons r rs = refl

  placed_of-append : (xs ys : List (Record O Q)) → placed_of (xs ++ ys) ≡ placed_of xs ++ placed_of ys
  unfolding placed_of
  placed_of-append xs ys = flat_map-append (λ (r : Record O Q). placed_by r.round r.caller r.place r.act) xs ys

  pub placed_more : (rs : List (Record O Q)) (i : ℕ) (r : Record O Q) (now next : List (Placed O)) → i < length rs → r ≡ get_or rs i r → now ≡ placed_of (take i rs)
      → next ≡ now ++ placed_by r.round r.caller r.place r.act → next ≡ placed_of (take (i + 1) rs)
  placed_more rs i r now next inside here so_far longer =
      longer ∙ ap (λ (l : List (Placed O)). l ++ placed_by r.round r.caller r.place r.act) so_far
      ∙ ap (λ (l : List (Placed O)). placed_of (take i rs) ++ l) (sym (placed_of-cons r [] ∙ ap (λ (l : List (Placed O)). placed_by r.round r.caller r.place r.act ++ l) (placed_of-nil O Q) ∙ append-nil (placed_by r.round r.caller r.place r.act)))
      ∙ sym (placed_of-append (take i rs) (r ∷ []))
      ∙ ap placed_of (ap (λ (x : Record O Q). take i rs ++ x ∷ []) here ∙ sym (take_at_read rs i r inside).1)

  entries_by : (round caller place : ℕ) (act : Act O Q) → entries_in (placed_by round caller place act) ≡ batch_by caller place act
  entries_by round caller place (Submit batch) = refl
  entries_by round caller place (Read query) = refl

  -- their entries are the batches
  pub entries_placed : (rs : List (Record O Q)) → entries_in (placed_of rs) ≡ batches_of rs
  entries_placed [] = ap entries_in (placed_of-nil O Q) ∙ sym (batches_of-nil O Q)
  entries_placed (r ∷ rs) =
      ap entries_in (placed_of-cons r rs) ∙ map-append (λ (p : Placed O). p.entry) (placed_by r.round r.caller r.place r.act) (placed_of rs)
      ∙ ap (λ (l : List (Entry O)). l ++ entries_in (placed_of rs)) (entries_by r.round r.caller r.place r.act)
      ∙ ap (λ (l : List (Entry O)). batch_by r.caller r.place r.act ++ l) (entries_placed rs)
      ∙ sym (batches_of-cons r rs)

  -- what holds of two records holds of their batches
  behind : (R : ℕ → ℕ → ℕ → ℕ → Type 0) (round caller place : ℕ) (act : Act O Q) (ps : List (Placed O)) → All (λ (q : Placed O). R place round q.entry.tag q.round) ps
      → AllPairs (λ (p q : Placed O). R p.entry.tag p.round q.entry.tag q.round) ps → AllPairs (λ (p q : Placed O). R p.entry.tag p.round q.entry.tag q.round) (placed_by round caller place act ++ ps)
  behind R round caller place (Submit batch) ps first rest = pairs_cons (λ (p q : Placed O). R p.entry.tag p.round q.entry.tag q.round) _ ps first rest
  behind R round caller place (Read query) ps first rest = rest

  by_all : (T : ℕ → ℕ → ℕ → Type 0) (round caller place : ℕ) (act : Act O Q) → T round caller place → All (λ (p : Placed O). T p.round p.entry.caller p.entry.tag) (placed_by round caller place act)
  by_all T round caller place (Submit batch) h = All-cons (λ (p : Placed O). T p.round p.entry.caller p.entry.tag) _ [] h (All-nil (λ (p : Placed O). T p.round p.entry.caller p.entry.tag))
  by_all T round caller place (Read query) h = All-nil (λ (p : Placed O). T p.round p.entry.caller p.entry.tag)

  pub placed_all : (T : ℕ → ℕ → ℕ → Type 0) (rs : List (Record O Q)) → All (λ (r : Record O Q). T r.round r.caller r.place) rs → All (λ (p : Placed O). T p.round p.entry.caller p.entry.tag) (placed_of rs)
  placed_all T [] all = subst (All (λ (p : Placed O). T p.round p.entry.caller p.entry.tag)) (sym (placed_of-nil O Q)) (All-nil (λ (p : Placed O). T p.round p.entry.caller p.entry.tag))
  placed_all T (r ∷ rs) all =
      subst (All (λ (p : Placed O). T p.round p.entry.caller p.entry.tag)) (sym (placed_of-cons r rs))
      (All-append (λ (p : Placed O). T p.round p.entry.caller p.entry.tag) (placed_by r.round r.caller r.place r.act) (placed_of rs)
      (by_all T r.round r.caller r.place r.act (all 0 r (omega arith)))
      (placed_all T rs (λ k d h. all (suc k) d (omega (arith, h)))))

  pub placed_pairs : (R : ℕ → ℕ → ℕ → ℕ → Type 0) (rs : List (Record O Q)) → AllPairs (λ (r s : Record O Q). R r.place r.round s.place s.round) rs
      → AllPairs (λ (p q : Placed O). R p.entry.tag p.round q.entry.tag q.round) (placed_of rs)
  placed_pairs R [] all = subst (AllPairs (λ (p q : Placed O). R p.entry.tag p.round q.entry.tag q.round)) (sym (placed_of-nil O Q)) (pairs_nil (λ (p q : Placed O). R p.entry.tag p.round q.entry.tag q.round))
  placed_pairs R (r ∷ rs) all =
      subst (AllPairs (λ (p q : Placed O). R p.entry.tag p.round q.entry.tag q.round)) (sym (placed_of-cons r rs))
      (behind R r.round r.caller r.place r.act (placed_of rs)
      (placed_all (λ round caller place. R r.place r.round place round) rs (pairs_head (λ (a b : Record O Q). R a.place a.round b.place b.round) r rs all))
      (placed_pairs R rs (pairs_tail (λ (a b : Record O Q). R a.place a.round b.place b.round) r rs all)))

  where_by : (test : ℕ → Bool) (round caller place : ℕ) (act : Act O Q) → test round ≡ true → filter (λ (p : Placed O). test p.round) (placed_by round caller place act) ≡ placed_by round caller place act
  where_by test round caller place (Submit batch) passes = filter_yes (λ (p : Placed O). test p.round) _ [] passes
  where_by test round caller place (Read query) passes = refl

  not_by : (test : ℕ → Bool) (round caller place : ℕ) (act : Act O Q) → test round ≡ false → filter (λ (p : Placed O). test p.round) (placed_by round caller place act) ≡ []
  not_by test round caller place (Submit batch) fails = filter_no (λ (p : Placed O). test p.round) _ [] fails
  not_by test round caller place (Read query) fails = refl

  -- the batches of the records of some rounds
  pub placed_where : (test : ℕ → Bool) (rs : List (Record O Q)) → placed_of (filter (λ (r : Record O Q). test r.round) rs) ≡ filter (λ (p : Placed O). test p.round) (placed_of rs)
  placed_where test [] = placed_of-nil O Q ∙ sym (ap (filter (λ (p : Placed O). test p.round)) (placed_of-nil O Q))
  placed_where test (r ∷ rs) =
      let both : filter (λ (p : Placed O). test p.round) (placed_of (r ∷ rs)) ≡ filter (λ (p : Placed O). test p.round) (placed_by r.round r.caller r.place r.act) ++ filter (λ (p : Placed O). test p.round) (placed_of rs) =
      ap (filter (λ (p : Placed O). test p.round)) (placed_of-cons r rs) ∙ filter-append (λ (p : Placed O). test p.round) (placed_by r.round r.caller r.place r.act) (placed_of rs) in
      elim (cases_Bool (test r.round)) [
        | inl t ↦
            ap placed_of (filter_yes (λ (x : Record O Q). test x.round) r rs t) ∙ placed_of-cons r (filter (λ (x : Record O Q). test x.round) rs)
            ∙ ap (λ (l : List (Placed O)). placed_by r.round r.caller r.place r.act ++ l) (placed_where test rs)
            ∙ ap (λ (l : List (Placed O)). l ++ filter (λ (p : Placed O). test p.round) (placed_of rs)) (sym (where_by test r.round r.caller r.place r.act t))
            ∙ sym both
        | inr f ↦
            ap placed_of (filter_no (λ (x : Record O Q). test x.round) r rs f) ∙ placed_where test rs
            ∙ ap (λ (l : List (Placed O)). l ++ filter (λ (p : Placed O). test p.round) (placed_of rs)) (sym (not_by test r.round r.caller r.place r.act f))
            ∙ sym both
      ]

module _ {O : Type 0} where
  -- one more is picked
  pub picked_more : (placed picked next : List (Placed O)) (order : List ℕ) (i : ℕ) (p q : Placed O) → i < length order → q ≡ p → next ≡ picked ++ q ∷ [] → p.entry.tag ≡ get_or order i 0 → IsOnlyOf placed p
      → tags_of picked ≡ take i order → All (IsOnlyOf placed) picked → (tags_of next ≡ take (i + 1) order) × All (IsOnlyOf placed) next
  picked_more placed picked next order i p q inside same longer here only tags so_far =
      let whole : next ≡ picked ++ p ∷ [] = longer ∙ ap (λ (x : Placed O). picked ++ x ∷ []) same in (
        ap tags_of whole ∙ map-append (λ (x : Placed O). x.entry.tag) picked (p ∷ []) ∙ ap (λ (l : List ℕ). l ++ p.entry.tag ∷ []) tags
            ∙ ap (λ (n : ℕ). take i order ++ n ∷ []) here ∙ sym (take_at_read order i 0 inside).1,
        subst (All (IsOnlyOf placed)) (sym whole) (All-push (IsOnlyOf placed) picked p so_far only),
      )
