-- Folds and images of the entries in a range, at a node whose entry lies in it.
use Rattle.std.proofs.Common.{◌≡◌, false, List, ◌∷◌, ◌++◌, ap, ◌∙◌, subst}
use Rattle.std.specs.declared.cmp.Ordering.{Ordering}
use Rattle.std.specs.Cmp.{IsTotalOrder}
use Rattle.map_model.specs.Entries.{IsIncreasing}
use Rattle.map_model.specs.Fold.{IsMonoidOver, IsProjection, fold_of}
use Rattle.map_model.proofs.Keys.{IsIncreasing-filter}
use Rattle.map_model.proofs.Folds.{fold-around}
use Rattle.map_model.proofs.RangeFolds.{image-around}
use Rattle.tree_query.specs.declared.range.KeyRange.{KeyRange}
use Rattle.tree_query.specs.Within.{in_range, ends_before, begins_after, within, left_part, right_part}
use Rattle.tree_query.proofs.Ranges.{within-inside}

module _ {K V X : Type 0} {Fits : X → Type 0} {order : K → K → Ordering} {base : K → V → X} {unit : X} {combine : X → X → X} (total : IsTotalOrder order) (monoid : IsMonoidOver Fits unit combine) (base_fits : (k : K) (v : V) → Fits (base k v)) where
  pub fold_inside : (range : KeyRange K) (whole l : List (K × V)) (key : K) (val : V) (r : List (K × V)) → whole ≡ l ++ (key, val) ∷ r → IsIncreasing order (l ++ (key, val) ∷ r) → ends_before order range key ≡ false → begins_after order range key ≡ false
      → fold_of base unit combine (within order range whole) ≡ combine (combine (fold_of base unit combine (within order (left_part range) l)) (base key val)) (fold_of base unit combine (within order (right_part range) r))
  fold_inside range whole l key val r is s upto_end from_begin =
      ap (fold_of base unit combine) (ap (within order range) is ∙ within-inside total range l key val r s upto_end from_begin)
      ∙ fold-around monoid base_fits (within order (left_part range) l) key val (within order (right_part range) r)

  pub image_inside : {Y : Type 0} (image : X → Y) (combine_images : Y → Y → Y) → IsProjection order base unit combine image combine_images → (range : KeyRange K) (whole l : List (K × V)) (key : K) (val : V) (r : List (K × V)) → whole ≡ l ++ (key, val) ∷ r → IsIncreasing order (l ++ (key, val) ∷ r) → ends_before order range key ≡ false → begins_after order range key ≡ false
      → image (fold_of base unit combine (within order range whole)) ≡ combine_images (image (fold_of base unit combine (within order (left_part range) l))) (combine_images (image (base key val)) (image (fold_of base unit combine (within order (right_part range) r))))
  image_inside image combine_images projects range whole l key val r is s upto_end from_begin =
      let cut = within-inside total range l key val r s upto_end from_begin in
      let rises : IsIncreasing order (within order range (l ++ (key, val) ∷ r)) = IsIncreasing-filter order (λ e. in_range order range e.0) (l ++ (key, val) ∷ r) s in
      ap (λ m. image (fold_of base unit combine m)) (ap (within order range) is ∙ cut)
      ∙ image-around total monoid base_fits image combine_images projects (within order (left_part range) l) key val (within order (right_part range) r) (subst (IsIncreasing order) cut rises)
