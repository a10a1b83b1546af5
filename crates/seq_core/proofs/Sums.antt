-- The sum of joined lists.
use Rattle.std.proofs.Common.{◌≡◌, ℕ, ◌+◌, ◌<◌, List, [], ◌∷◌, ◌++◌, length, take, get_or, sym, ap, ◌∙◌}
use Rattle.std.proofs.lemmas.List.{take_more}
use Rattle.map_model.specs.Fold.{IsMonoidOver}
use Rattle.seq_core.specs.Sums.{sum_of}

module _ {E X : Type 0} {Fits : X → Type 0} {image : E → X} {unit : X} {combine : X → X → X} (monoid : IsMonoidOver Fits unit combine) (image_fits : (e : E) → Fits (image e)) where
  pub sum-fits : (es : List E) → Fits (sum_of image unit combine es)
  sum-fits [] = monoid.unit_fits
  sum-fits (e ∷ es) = monoid.combine_fits _ _ (image_fits e) (sum-fits es)

  pub sum-append : (l r : List E) → sum_of image unit combine (l ++ r) ≡ combine (sum_of image unit combine l) (sum_of image unit combine r)
  sum-append [] r = sym (monoid.left_unit _ (sum-fits r))
  sum-append (e ∷ l) r =
      ap (combine (image e)) (sum-append l r) ∙ sym (monoid.assoc (image e) (sum_of image unit combine l) (sum_of image unit combine r) (image_fits e) (sum-fits l) (sum-fits r))

  pub sum-one : (e : E) → sum_of image unit combine (e ∷ []) ≡ image e
  sum-one e = monoid.right_unit _ (image_fits e)

  -- the front, then an item, then the back
  pub sum-around : (l : List E) (e : E) (r : List E) → sum_of image unit combine (l ++ e ∷ r) ≡ combine (combine (sum_of image unit combine l) (image e)) (sum_of image unit combine r)
  sum-around l e r = sum-append l (e ∷ r) ∙ sym (monoid.assoc _ _ _ (sum-fits l) (image_fits e) (sum-fits r))

  -- one item more of a list
  pub sum-take_more : (es : List E) (i : ℕ) (e : E) → i < length es → e ≡ get_or es i e → sum_of image unit combine (take (i + 1) es) ≡ combine (sum_of image unit combine (take i es)) (image e)
  sum-take_more es i e h is =
      ap (sum_of image unit combine) (take_more es i e h ∙ ap (λ x. take i es ++ x ∷ []) (sym is)) ∙ sum-append (take i es) (e ∷ []) ∙ ap (combine (sum_of image unit combine (take i es))) (sum-one e)
