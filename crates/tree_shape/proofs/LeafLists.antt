-- The blocks of a list that is cut in its middle.
use Rattle.std.proofs.Common.{map, ◌≡◌, ℕ, zero, suc, ◌+◌, ◌-◌, ◌/◌, ◌<◌, ◌≤◌, List, [], ◌∷◌, ◌++◌, length, take, drop, cond, leb, get_or, refl, sym, ap, ap₂, ◌∙◌, arith}
use Rattle.std.proofs.lemmas.Bool.{le-leb, lt-leb}
use Rattle.std.proofs.lemmas.List.{length-take, length-drop, length-map, map-append, append_assoc, append_cancel_left}
use Rattle.std.proofs.Math.Seq.{take-append_seam, drop-append-add}
use Rattle.tree_shape.specs.Cuts.{IsCutAround}
use Rattle.tree_shape.specs.LeafLists.{BeginsWith, leaf_lists, leaf_lists_within}

module _ {E : Type 0} (most : ℕ) where
  one_block : (cuts : ℕ) (es : List E) → length es ≤ most → leaf_lists_within most cuts es ≡ es ∷ []
  unfolding leaf_lists_within
  one_block zero es short = refl
  one_block (suc cuts) es short =
      ap (λ b. cond b (es ∷ []) (leaf_lists_within most cuts (take ((length es - 1) / 2) es) ++ leaf_lists_within most cuts (drop ((length es - 1) / 2 + 1) es))) (le-leb (length es) most short)

  -- more cuts than entries change nothing
  steady : (n k : ℕ) (es : List E) → length es ≤ n → length es ≤ k → leaf_lists_within most n es ≡ leaf_lists_within most k es
  unfolding leaf_lists_within
  steady zero k es p q = sym (one_block k es (omega (arith, p)))
  steady (suc n) zero es p q = one_block (suc n) es (omega (arith, q))
  steady (suc n) (suc k) es p q =
      let m : ℕ = (length es - 1) / 2 in
      ap₂ (λ front back. cond (leb (length es) most) (es ∷ []) (front ++ back))
      (steady n k (take m es) (omega (arith, p, length-take m es)) (omega (arith, q, length-take m es)))
      (steady n k (drop (m + 1) es) (omega (arith, p, length-drop (m + 1) es)) (omega (arith, q, length-drop (m + 1) es)))

  pub short_lists : (es : List E) → length es ≤ most → leaf_lists most es ≡ es ∷ []
  short_lists es short = one_block (length es) es short

  pub long_lists : (es front : List E) (e : E) (back : List E) → IsCutAround es ((length es - 1) / 2) front e back → most < length es → leaf_lists most es ≡ leaf_lists most front ++ leaf_lists most back
  unfolding leaf_lists_within
  long_lists es front e back cut long =
      let m : ℕ = (length es - 1) / 2 in
      let n : ℕ = length es in
      let at_front : take m es ≡ front = ap (take m) cut.whole ∙ ap (λ i. take i (front ++ e ∷ back)) (sym cut.front_length) ∙ take-append_seam front (e ∷ back) in
      let at_back : drop (m + 1) es ≡ back = ap (drop (m + 1)) cut.whole ∙ ap (λ i. drop (i + 1) (front ++ e ∷ back)) (sym cut.front_length) ∙ drop-append-add front (e ∷ back) 1 in
      steady n (suc n) es (omega arith) (omega arith)
      ∙ ap (λ b. cond b (es ∷ []) (leaf_lists_within most n (take m es) ++ leaf_lists_within most n (drop (m + 1) es))) (lt-leb (length es) most long)
      ∙ ap₂ (λ x y. leaf_lists_within most n x ++ leaf_lists_within most n y) at_front at_back
      ∙ ap₂ (λ x y. x ++ y) (steady n (length front) front (omega (arith, cut.front_length, cut.back_length)) (omega arith)) (steady n (length back) back (omega (arith, cut.back_length)) (omega arith))

  module _ {es front : List E} {e : E} {back : List E} (cut : IsCutAround es ((length es - 1) / 2) front e back) (long : most < length es) where
    both_first : (rest : List (List E)) → leaf_lists most es ++ rest ≡ leaf_lists most front ++ (leaf_lists most back ++ rest)
    both_first rest =
        ap (λ x. x ++ rest) (long_lists es front e back cut long) ∙ append_assoc (leaf_lists most front) (leaf_lists most back) rest

    pub front_begins : (whole : List (List E)) → BeginsWith whole (leaf_lists most es) → BeginsWith whole (leaf_lists most front)
    front_begins whole begins = record {
      rest = leaf_lists most back ++ begins.rest;
      joined = begins.joined ∙ both_first begins.rest;
    }

    pub back_begins : (whole mid : List (List E)) → BeginsWith whole (leaf_lists most es) → whole ≡ leaf_lists most front ++ mid → BeginsWith mid (leaf_lists most back)
    back_begins whole mid begins taken = record {
      rest = begins.rest;
      joined = append_cancel_left (leaf_lists most front) mid (leaf_lists most back ++ begins.rest) (sym taken ∙ begins.joined ∙ both_first begins.rest);
    }

    pub both_taken : (whole mid rest : List (List E)) → whole ≡ leaf_lists most front ++ mid → mid ≡ leaf_lists most back ++ rest → whole ≡ leaf_lists most es ++ rest
    both_taken whole mid rest p q = p ∙ ap (λ x. leaf_lists most front ++ x) q ∙ sym (both_first rest)

    pub both_pushed : (old mid new : List (List E)) → mid ≡ old ++ leaf_lists most front → new ≡ mid ++ leaf_lists most back → new ≡ old ++ leaf_lists most es
    both_pushed old mid new p q =
        q ∙ ap (λ x. x ++ leaf_lists most back) p ∙ append_assoc old (leaf_lists most front) (leaf_lists most back)
        ∙ ap (λ x. old ++ x) (sym (long_lists es front e back cut long))

module _ {E X : Type 0} (entries : X → List E) (most : ℕ) (es : List E) (short : length es ≤ most) (leaves rest : List X) where
  pub pushed : (leaf : X) → rest ≡ leaves ++ leaf ∷ [] → entries leaf ≡ es → map entries rest ≡ map entries leaves ++ leaf_lists most es
  pushed leaf added is =
      ap (map entries) added ∙ map-append entries leaves (leaf ∷ []) ∙ ap (λ l. map entries leaves ++ l ∷ []) is ∙ ap (λ x. map entries leaves ++ x) (sym (short_lists most es short))

  module _ (begins : BeginsWith (map entries leaves) (leaf_lists most es)) where
    theirs : map entries leaves ≡ es ∷ begins.rest
    theirs = begins.joined ∙ ap (λ x. x ++ begins.rest) (short_lists most es short)

    pub some : 0 < length leaves
    some =
        let counted : length (map entries leaves) ≡ length (es ∷ begins.rest) = ap (λ l. length l) theirs in
        omega (arith, counted, length-map leaves entries)

    pub next : (leaf : X) → leaves ≡ leaf ∷ rest → entries leaf ≡ es
    next leaf is = ap (λ l. get_or l 0 es) (sym (ap (map entries) is) ∙ theirs)

    pub left : (leaf : X) → leaves ≡ leaf ∷ rest → map entries leaves ≡ leaf_lists most es ++ map entries rest
    left leaf is =
        ap (map entries) is ∙ ap (λ l. l ∷ map entries rest) (next leaf is) ∙ ap (λ x. x ++ map entries rest) (sym (short_lists most es short))
