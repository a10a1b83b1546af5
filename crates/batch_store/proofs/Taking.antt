-- Lemmas on what was taken from the lanes.
use Rattle.std.proofs.Common.{◌≡◌, ◌≢◌, ◌==◌, ℕ, ◌<◌, Bool, true, false, eqb, List, [], ◌∷◌, ◌++◌, length, map, filter, get_or, take, drop, inl, inr, refl, sym, ap, ◌∙◌, subst, arith, append_assoc}
use Rattle.std.proofs.lemmas.List.{append-nil, map-append, get_or-set_other, get_or_default}
use Rattle.std.proofs.lemmas.List.Elements.{All-nil, All-append, All-map, filter-append}
use Rattle.std.proofs.lemmas.Bool.Decides.{eqb_tells}
use Rattle.std.proofs.lemmas.Grind.{get_or-set_at}
use Rattle.std.proofs.Math.ListN.{set, length-set}
use Rattle.std.proofs.Math.Seq.{map-set_same, take-append_seam}
use Rattle.lanes.specs.Lane.{LaneId, Receiving}
use Rattle.version_root.specs.Public.{Entry}
use Rattle.batch_store.specs.declared.submitted.Submitted.{Submitted}
use Rattle.batch_store.specs.Journal.{submitted_in, entry_of, items_of, lanes_of, Below, IsTakenFrom, AreReceived}

module _ {O : Type 0} where
  pub items_of-append : (c : ℕ) (xs ys : List (Entry O)) → items_of c (xs ++ ys) ≡ items_of c xs ++ items_of c ys
  unfolding items_of
  items_of-append c xs ys =
      ap (map submitted_in) (filter-append (λ (e : Entry O). e.caller == c) xs ys) ∙ map-append submitted_in (filter (λ (e : Entry O). e.caller == c) xs) (filter (λ (e : Entry O). e.caller == c) ys)

  pub items_of-nil : (c : ℕ) → items_of {O = O} c [] ≡ []
  unfolding items_of
  items_of-nil c = refl

  own_items : (c b : ℕ) → eqb b c ≡ true → (items : List (Submitted O)) → items_of c (map (entry_of b) items) ≡ items
  unfolding items_of
  own_items c b e [] = refl
  own_items c b e (x ∷ xs) = rw e (ap (λ (l : List (Submitted O)). x ∷ l) (own_items c b e xs))

  other_items : (c b : ℕ) → eqb b c ≡ false → (items : List (Submitted O)) → items_of c (map (entry_of b) items) ≡ []
  unfolding items_of
  other_items c b e [] = refl
  other_items c b e (x ∷ xs) = rw e (other_items c b e xs)

  pub below-filed : (n c : ℕ) → c < n → (items : List (Submitted O)) → Below n (map (entry_of c) items)
  below-filed n c h items = All-map (λ (e : Entry O). e.caller < n) (entry_of c) items (λ k d l. h)

  pub taken-none : (xs : List (Receiving (Submitted O))) → IsTakenFrom [] xs xs
  taken-none xs =
      record { lanes = refl; count = refl; each = λ i d h. sym (ap (λ (l : List (Submitted O)). (get_or xs i d).received ++ l) (items_of-nil i) ∙ append-nil _); below = All-nil _ }

  each_more : (taken : List (Entry O)) (before mid : List (Receiving (Submitted O))) (i : ℕ) (items : List (Submitted O)) (y : Receiving (Submitted O))
      → IsTakenFrom taken before mid → i < length mid → ((d : Receiving (Submitted O)) → y.received ≡ (get_or mid i d).received ++ items)
      → (j : ℕ) (d : Receiving (Submitted O)) → j < length before
      → (get_or (set mid i y) j d).received ≡ (get_or before j d).received ++ items_of j (taken ++ map (entry_of i) items)
  each_more taken before mid i items y t inside gave j d h =
      let a = t.each j d h in
      let p = items_of-append j taken (map (entry_of i) items) in
      elim (eqb_tells i j) [
        | inl e ↦
            let s : get_or (set mid i y) j d ≡ y = get_or-set_at mid i j y d (sym e.1) inside in
            let own : items_of j (map (entry_of i) items) ≡ items = own_items j i e.0 items in
            let g : y.received ≡ (get_or mid j d).received ++ items = subst (λ n. y.received ≡ (get_or mid n d).received ++ items) e.1 (gave d) in
            let q : ((get_or before j d).received ++ items_of j taken) ++ items ≡ (get_or before j d).received ++ (items_of j taken ++ items) = append_assoc (get_or before j d).received (items_of j taken) items in
            ap (λ (v : Receiving (Submitted O)). v.received) s ∙ cc
        | inr e ↦
            let s : get_or (set mid i y) j d ≡ get_or mid j d = get_or-set_other mid i j y d (λ z. e.1 (sym z)) in
            let own : items_of j (map (entry_of i) items) ≡ [] = other_items j i e.0 items in
            let n : items_of j taken ++ [] ≡ items_of j taken = append-nil (items_of j taken) in
            ap (λ (v : Receiving (Submitted O)). v.received) s ∙ cc
      ]

  -- the lane at place i gave these items
  pub taken-more : (taken : List (Entry O)) (before mid : List (Receiving (Submitted O))) (i : ℕ) (items : List (Submitted O)) (y : Receiving (Submitted O))
      → IsTakenFrom taken before mid → i < length mid → y.lane ≡ (get_or mid i y).lane → ((d : Receiving (Submitted O)) → y.received ≡ (get_or mid i d).received ++ items)
      → IsTakenFrom (taken ++ map (entry_of i) items) before (set mid i y)
  taken-more taken before mid i items y t inside lane gave =
      record {
        lanes = map-set_same (λ (v : Receiving (Submitted O)). v.lane) mid i y y lane ∙ t.lanes;
        count = length-set mid i y ∙ t.count;
        each = each_more taken before mid i items y t inside gave;
        below = All-append (λ (e : Entry O). e.caller < length before) taken (map (entry_of i) items) t.below (below-filed (length before) i (omega (arith, t.count)) items);
      }

  -- the same, with the pending list
  pub taken-turn : (before mid : List (Receiving (Submitted O))) (i : ℕ) (y r : Receiving (Submitted O)) (p0 p1 p2 : List (Entry O))
      → ((taken : List (Entry O)) × (p1 ≡ p0 ++ taken) × IsTakenFrom taken before mid)
      → i < length mid → y.lane ≡ (get_or mid i r).lane
      → ((items : List (Submitted O)) × (y.received ≡ (get_or mid i r).received ++ items) × (p2 ≡ p1 ++ map (entry_of i) items))
      → (taken : List (Entry O)) × (p2 ≡ p0 ++ taken) × IsTakenFrom taken before (set mid i y)
  taken-turn before mid i y r p0 p1 p2 t inside lane gave =
      let same : (d : Receiving (Submitted O)) → get_or mid i r ≡ get_or mid i d = λ d. get_or_default mid i r d inside in (
        t.0 ++ map (entry_of i) gave.0,
        gave.2 ∙ ap (λ (l : List (Entry O)). l ++ map (entry_of i) gave.0) t.1 ∙ append_assoc p0 t.0 _,
        taken-more t.0 before mid i gave.0 y t.2 inside (lane ∙ ap (λ (v : Receiving (Submitted O)). v.lane) (same y))
            (λ d. gave.1 ∙ ap (λ (v : Receiving (Submitted O)). v.received ++ gave.0) (same d)),
      )

  -- what was taken is among the entries
  pub received-took : (entries taken : List (Entry O)) (before after : List (Receiving (Submitted O)))
      → AreReceived entries before → IsTakenFrom taken before after → AreReceived (entries ++ taken) after
  received-took entries taken before after k t =
      record {
        few = omega (arith, t.count, k.few);
        below = subst (λ n. Below n (entries ++ taken)) (sym t.count) (All-append (λ (e : Entry O). e.caller < length before) entries taken k.below t.below);
        each = λ i d h.
            let inside : i < length before = omega (arith, t.count, h) in
            items_of-append i entries taken ∙ ap (λ (l : List (Submitted O)). l ++ items_of i taken) (k.each i d inside) ∙ sym (t.each i d inside);
      }

  -- the same, with the journal apart
  pub received-turn : (journal p0 p1 : List (Entry O)) (before after : List (Receiving (Submitted O)))
      → AreReceived (journal ++ p0) before → ((taken : List (Entry O)) × (p1 ≡ p0 ++ taken) × IsTakenFrom taken before after) → AreReceived (journal ++ p1) after
  received-turn journal p0 p1 before after k t =
      subst (λ (l : List (Entry O)). AreReceived l after) (append_assoc journal p0 t.0 ∙ ap (λ (l : List (Entry O)). journal ++ l) (sym t.1)) (received-took (journal ++ p0) t.0 before after k t.2)

  pub received-kept : {before after : List (Entry O)} {intakes : List (Receiving (Submitted O))} → after ≡ before → AreReceived before intakes → AreReceived after intakes
  received-kept {intakes = intakes} e k = subst (λ (l : List (Entry O)). AreReceived l intakes) (sym e) k

  -- what is published is no longer pending
  pub received-published : (journal p1 p2 slice after : List (Entry O)) (intakes : List (Receiving (Submitted O)))
      → AreReceived (journal ++ p1) intakes → slice ≡ p1 → after ≡ journal ++ slice → p2 ≡ [] → AreReceived (after ++ p2) intakes
  received-published journal p1 p2 slice after intakes k same grown none =
      received-kept (ap (λ (l : List (Entry O)). after ++ l) none ∙ append-nil after ∙ grown ∙ ap (λ (l : List (Entry O)). journal ++ l) same) k
