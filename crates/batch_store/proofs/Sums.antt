-- A journal is as long as the lists of its callers together.
use Rattle.std.proofs.Common.{◌≡◌, ◌≢◌, ℕ, zero, suc, ◌+◌, ◌<◌, ◌≤◌, true, false, eqb, List, [], ◌∷◌, length, take, get_or, inl, inr, refl, sym, ap, ◌∙◌, subst, arith}
use Rattle.std.specs.List.{sum_by}
use Rattle.std.proofs.Math.Seq.{take-length}
use Rattle.std.proofs.lemmas.List.Sums.{sum_by_more}
use Rattle.std.proofs.lemmas.Bool.Decides.{eqb_tells}
use Rattle.version_root.specs.Public.{Entry}
use Rattle.batch_store.specs.Journal.{items_of, Below}
use Rattle.batch_store.specs.Calling.{Calling}
use Rattle.batch_store.specs.Round.{HasAllOf, sent_by}

module _ (O : Type 0) where
  none_in : (n : ℕ) → length (items_of {O = O} n []) ≡ 0
  unfolding items_of
  none_in n = refl

module _ {O : Type 0} where
  -- how many entries the first n callers have
  total : ℕ → List (Entry O) → ℕ
  total zero entries = 0
  total (suc n) entries = total n entries + length (items_of n entries)

  own_more : (n : ℕ) (entry : Entry O) (entries : List (Entry O)) → eqb entry.caller n ≡ true → length (items_of n (entry ∷ entries)) ≡ length (items_of n entries) + 1
  unfolding items_of
  own_more n entry entries e = rw e (omega arith)

  other_same : (n : ℕ) (entry : Entry O) (entries : List (Entry O)) → eqb entry.caller n ≡ false → length (items_of n (entry ∷ entries)) ≡ length (items_of n entries)
  unfolding items_of
  other_same n entry entries e = rw e refl

  one_more : (n : ℕ) (entry : Entry O) (entries : List (Entry O))
      → (entry.caller < n → total n (entry ∷ entries) ≡ total n entries + 1) × (n ≤ entry.caller → total n (entry ∷ entries) ≡ total n entries)
  unfolding total
  one_more zero entry entries = ((λ h. absurd (omega (arith, h))), (λ h. refl))
  one_more (suc n) entry entries =
      let rest = one_more n entry entries in
      elim (eqb_tells entry.caller n) [
        | inl q ↦
            let here : length (items_of n (entry ∷ entries)) ≡ length (items_of n entries) + 1 = own_more n entry entries q.0 in
            let below : total n (entry ∷ entries) ≡ total n entries = rest.1 (omega (arith, q.1)) in
            ((λ h. omega (arith, here, below)), (λ h. absurd (omega (arith, h, q.1))))
        | inr q ↦
            let here : length (items_of n (entry ∷ entries)) ≡ length (items_of n entries) = other_same n entry entries q.0 in
            let other : entry.caller ≢ n = q.1 in (
              (λ h.
                  let below : total n (entry ∷ entries) ≡ total n entries + 1 = rest.0 (omega (arith, h, other)) in
                  omega (arith, here, below)),
              (λ h.
                  let below : total n (entry ∷ entries) ≡ total n entries = rest.1 (omega (arith, h)) in
                  omega (arith, here, below)),
            )
      ]

  none : (n : ℕ) (entries : List (Entry O)) → entries ≡ [] → total n entries ≡ 0
  unfolding total
  none zero entries e = refl
  none (suc n) entries e =
      let rest : total n entries ≡ 0 = none n entries e in
      let here : length (items_of n entries) ≡ 0 = ap (λ (l : List (Entry O)). length (items_of n l)) e ∙ none_in O n in
      omega (arith, rest, here)

  all_counted : (n : ℕ) (entries : List (Entry O)) → Below n entries → length entries ≡ total n entries
  all_counted n [] below = sym (none n [] refl)
  all_counted n (entry ∷ entries) below =
      let rest : length entries ≡ total n entries = all_counted n entries (λ k d h. below (suc k) d (omega (arith, h))) in
      let more : total n (entry ∷ entries) ≡ total n entries + 1 = (one_more n entry entries).0 (below 0 entry (omega arith)) in
      omega (arith, rest, more)

module _ {S O : Type 0} where
  sent_so_far : (n : ℕ) (journal : List (Entry O)) (callers : List (Calling S O)) (e : Calling S O) → n ≤ length callers → HasAllOf journal callers → total n journal ≡ sent_by (take n callers)
  unfolding total
  sent_so_far zero journal callers e h all = refl
  sent_so_far (suc n) journal callers e h all =
      let rest : total n journal ≡ sent_by (take n callers) = sent_so_far n journal callers e (omega (arith, h)) all in
      let here : length (items_of n journal) ≡ length (get_or callers n e).sent = ap length (all.each n e (omega (arith, h))) in
      let next : suc n ≡ n + 1 = omega arith in
      let step : sent_by (take (suc n) callers) ≡ sent_by (take (n + 1) callers) = ap (λ (k : ℕ). sent_by (take k callers)) next in
      let more : sent_by (take (n + 1) callers) ≡ sent_by (take n callers) + length (get_or callers n e).sent = sum_by_more (λ (caller : Calling S O). length caller.sent) callers n e (omega (arith, h)) in
      omega (arith, rest, here, more, step)

  pub counts_all : (journal : List (Entry O)) (callers : List (Calling S O)) → HasAllOf journal callers → length journal ≡ sent_by callers
  unfolding total
  counts_all journal [] all = all_counted 0 journal all.below
  counts_all journal (caller ∷ callers) all =
      let n = length (caller ∷ callers) in
      all_counted n journal all.below ∙ sent_so_far n journal (caller ∷ callers) caller (omega arith) all ∙ ap sent_by (take-length (caller ∷ callers))
