-- Two trees cut at an entry of one of them.
use Rattle.std.proofs.Common.{◌≡◌, ◌+◌, ◌<◌, ◌≤◌, List, ◌∷◌, ◌++◌, length, length-append, Option, None, Some, sym, ap, subst, ◌∙◌, arith}
use Rattle.std.specs.List.{cons_option}
use Rattle.std.specs.declared.cmp.Ordering.{Ordering}
use Rattle.std.specs.Ordering.{is_lt, is_gt}
use Rattle.map_model.specs.Contents.{Contents}
use Rattle.map_model.specs.Entries.{IsIncreasing, lookup, below, above}
use Rattle.map_model.proofs.Cuts.{length-around}
use Rattle.map_model.proofs.Lengths.{length-filter_le}
use Rattle.fork_join.specs.Openings.{AreHalves}
use Rattle.bulk_passes.specs.Answers.{IsAnswer, IsPutTogether}
use Rattle.bulk_ops.specs.Combination.{IsCombination, combined_entries, entry_at}

module _ {K V : Type 0} {order : K → K → Ordering} {combined : List (K × V) → List (K × V) → List (K × V)} {kept : Option V → Option V → Option V} {first second : _} (laws : IsCombination order combined kept first second) where
  -- an entry of the first
  pub cut_at_first : (a b front back below' above' : Contents K V) (k : K) (v : V) (middle : Option (K × V)) → a.entries ≡ front.entries ++ (k, v) ∷ back.entries → IsIncreasing order a.entries → IsIncreasing order b.entries → below'.entries ≡ below order b.entries k → above'.entries ≡ above order b.entries k → middle ≡ entry_at k (kept (Some v) (lookup order b.entries k))
      → IsPutTogether order (combined_entries combined) (a, b) (front, below') middle (back, above')
  cut_at_first a b front back below' above' k v middle is s t low high m =
      let split = laws.split_first front.entries k v back.entries b.entries (subst (IsIncreasing order) is s) t in
      let whole : combined a.entries b.entries ≡ _ = ap (λ x. combined x b.entries) is ∙ split in
      record {
        whole = rw (low, high, m) whole;
        increasing = rw (low, high, m) (subst (IsIncreasing order) whole (laws.increases a.entries b.entries s t));
      }

-- the combination of two halves is that of the whole, and its keys rise
module _ {K V : Type 0} (order : K → K → Ordering) (combined : List (K × V) → List (K × V) → List (K × V)) where
  pub halves_rise : (left right : Contents K V) (middle : Option (K × V)) → AreHalves (IsAnswer (combined_entries combined)) (IsPutTogether order (combined_entries combined)) left middle right → IsIncreasing order (left.entries ++ cons_option middle right.entries)
  halves_rise left right middle h = rw (h.front_answer, h.back_answer) h.divided.increasing

  pub halves_combined : (left right out : Contents K V) (middle : Option (K × V)) → out.entries ≡ left.entries ++ cons_option middle right.entries → (part front back : Contents K V × Contents K V) → IsPutTogether order (combined_entries combined) part front middle back → IsAnswer (combined_entries combined) front left → IsAnswer (combined_entries combined) back right → IsAnswer (combined_entries combined) part out
  halves_combined left right out middle is part front back put front_is back_is = is ∙ rw (front_is, back_is) (sym put.whole)

-- an entry or none before a list makes it no shorter
length-cons_option : {E : Type 0} (o : Option E) (l : List E) → length l ≤ length (cons_option o l)
length-cons_option None l = omega arith
length-cons_option (Some e) l = omega arith

-- the answers for two halves have at most the entries of both maps
module _ {K V : Type 0} (order : K → K → Ordering) (combined : List (K × V) → List (K × V) → List (K × V)) (short : (a b : List (K × V)) → length (combined a b) ≤ length a + length b) where
  pub halves_short : (left right : Contents K V) (part front : Contents K V × Contents K V) (middle : Option (K × V)) (back : Contents K V × Contents K V) → IsPutTogether order (combined_entries combined) part front middle back
      → IsAnswer (combined_entries combined) front left → IsAnswer (combined_entries combined) back right → length left.entries + length right.entries ≤ length part.0.entries + length part.1.entries
  halves_short left right part front middle back put front_is back_is =
      let whole = ap length put.whole ∙ length-append (combined_entries combined front) (cons_option middle (combined_entries combined back)) in
      omega (arith, whole, ap length front_is, ap length back_is, short part.0.entries part.1.entries, length-cons_option middle (combined_entries combined back))

-- the parts are smaller than the whole
module _ {K V : Type 0} (order : K → K → Ordering) where
  pub smaller : (a b front back low high : List (K × V)) (e : K × V) (k : K) → a ≡ front ++ e ∷ back → low ≡ below order b k → high ≡ above order b k → (length front + length low < length a + length b) × (length back + length high < length a + length b)
  smaller a b front back low high e k is is_low is_high =
      let n = ap length is ∙ length-around front e back in
      let p : length low ≡ length (below order b k) = ap length is_low in
      let q : length high ≡ length (above order b k) = ap length is_high in
      let p' = length-filter_le (λ (d : K × V). is_lt (order d.0 k)) b in
      let q' = length-filter_le (λ (d : K × V). is_gt (order d.0 k)) b in
      (omega (arith, n, p, p'), omega (arith, n, q, q'))
