-- A walk over the entries of a block, entry by entry.
use Rattle.std.proofs.Common.{◌≡◌, ℕ, zero, suc, ◌≤◌, None, ◌+◌, true, false, cond, List, [], ◌∷◌, ◌++◌, length, take, drop, Some, sym, ap, ◌∙◌, subst, take-append-drop, arith}
use Rattle.std.specs.declared.cmp.Ordering.{Ordering}
use Rattle.std.specs.Cmp.{IsTotalOrder}
use Rattle.std.specs.List.{slice_get}
use Rattle.std.proofs.lemmas.List.{take_more, drop_more, append-nil}
use Rattle.std.proofs.lemmas.Option.{slice_get_within, get_or_from_slice_get}
use Rattle.map_model.specs.Entries.{IsIncreasing}
use Rattle.map_model.specs.Fold.{IsMonoidOver, IsProjection, fold_of}
use Rattle.map_model.proofs.Keys.{IsIncreasing-front, IsIncreasing-filter}
use Rattle.map_model.proofs.Folds.{fold-append, fold-one}
use Rattle.tree_query.specs.declared.range.KeyRange.{KeyRange}
use Rattle.tree_query.specs.Within.{in_range, ends_before, begins_after, within}
use Rattle.tree_query.proofs.Ranges.{inside, within-append, within-before, within-early}

-- at a place without an entry nothing is left
pub none_past : {E : Type 0} (m : List E) (i : ℕ) → slice_get m i ≡ None → length m ≤ i
none_past [] i h = omega arith
none_past (x ∷ m) zero h = cc
none_past (x ∷ m) (suc i) h = omega (arith, none_past m i h)

module _ {E : Type 0} (m : List E) (i : ℕ) (e : E) (is : slice_get m i ≡ Some e) where
  -- the entries before a place, and the one there
  pub take_here : take (i + 1) m ≡ take i m ++ e ∷ []
  take_here = take_more m i e (slice_get_within m i e is) ∙ ap (λ x. take i m ++ x ∷ []) (get_or_from_slice_get m i e e is)

  -- the entries before a place, the one there, and those behind it
  pub around_here : m ≡ take i m ++ e ∷ drop (i + 1) m
  around_here =
      sym (take-append-drop i m) ∙ ap (λ x. take i m ++ x) (drop_more m i e (slice_get_within m i e is) ∙ ap (λ x. x ∷ drop (i + 1) m) (get_or_from_slice_get m i e e is))

module _ {K V : Type 0} {order : K → K → Ordering} (total : IsTotalOrder order) (range : KeyRange K) (m : List (K × V)) (i : ℕ) (k : K) (v : V) (is : slice_get m i ≡ Some (k, v)) where
  -- an entry in the range
  pub within_more : ends_before order range k ≡ false → begins_after order range k ≡ false → within order range (take (i + 1) m) ≡ within order range (take i m) ++ (k, v) ∷ []
  within_more upto_end from_begin =
      ap (within order range) (take_here m i (k, v) is)
      ∙ within-append order range (take i m) ((k, v) ∷ [])
      ∙ ap (λ b. within order range (take i m) ++ cond b ((k, v) ∷ []) []) (inside total range k upto_end from_begin)

  -- an entry before the begin of the range
  pub within_same : IsIncreasing order m → begins_after order range k ≡ true → within order range (take (i + 1) m) ≡ within order range (take i m)
  within_same s early =
      ap (within order range) (take_here m i (k, v) is)
      ∙ within-append order range (take i m) ((k, v) ∷ [])
      ∙ ap (λ x. within order range (take i m) ++ x) (within-early total range (take i m) k v (drop (i + 1) m) (subst (IsIncreasing order) (around_here m i (k, v) is) s) early)
      ∙ append-nil (within order range (take i m))

  -- an entry past the end of the range
  pub within_ended : IsIncreasing order m → ends_before order range k ≡ true → within order range m ≡ within order range (take i m)
  within_ended s past =
      let whole = around_here m i (k, v) is in
      ap (within order range) whole ∙ within-before total range (take i m) k v (drop (i + 1) m) (subst (IsIncreasing order) whole s) past

  module _ {X : Type 0} {Fits : X → Type 0} {base : K → V → X} {unit : X} {combine : X → X → X} (monoid : IsMonoidOver Fits unit combine) (base_fits : (k : K) (v : V) → Fits (base k v)) where
    pub fold_more : ends_before order range k ≡ false → begins_after order range k ≡ false → fold_of base unit combine (within order range (take (i + 1) m)) ≡ combine (fold_of base unit combine (within order range (take i m))) (base k v)
    fold_more upto_end from_begin =
        ap (fold_of base unit combine) (within_more upto_end from_begin)
        ∙ fold-append monoid base_fits (within order range (take i m)) ((k, v) ∷ [])
        ∙ ap (combine (fold_of base unit combine (within order range (take i m)))) (fold-one monoid base_fits k v)

    -- the image of a fold, where the entry is in the range
    pub image_more : {Y : Type 0} (image : X → Y) (combine_images : Y → Y → Y) → IsProjection order base unit combine image combine_images → IsIncreasing order m → ends_before order range k ≡ false → begins_after order range k ≡ false → image (fold_of base unit combine (within order range (take (i + 1) m))) ≡ combine_images (image (fold_of base unit combine (within order range (take i m)))) (image (base k v))
    image_more image combine_images projects s upto_end from_begin =
        let more = within_more upto_end from_begin in
        let front : IsIncreasing order (take (i + 1) m) = IsIncreasing-front order (take (i + 1) m) (drop (i + 1) m) (subst (IsIncreasing order) (sym (take-append-drop (i + 1) m)) s) in
        let rises : IsIncreasing order (within order range (take (i + 1) m)) = IsIncreasing-filter order (λ e. in_range order range e.0) (take (i + 1) m) front in
        ap (λ x. image (fold_of base unit combine x)) more
        ∙ projects (within order range (take i m)) ((k, v) ∷ []) (subst (IsIncreasing order) more rises)
        ∙ ap (λ x. combine_images (image (fold_of base unit combine (within order range (take i m)))) (image x)) (fold-one monoid base_fits k v)
