-- The totals of a range, entry by entry.
use Rattle.std.proofs.Common.{◌≡◌, ◌∙◌, ◌+◌, ◌<◌, ◌≤◌, ◌∷◌, ◌++◌, [], List, ℕ, true, false, cond, inl, inr, length, get_or, take, refl, sym, ap, ap₂, ◌&&◌, nat_le}
use Rattle.std.specs.Ordering.{nat_cmp}
use Rattle.std.proofs.lemmas.Bool.{cases_Bool}
use Rattle.std.proofs.lemmas.List.{append-nil, take_all, take_more}
use Rattle.aug_monoid.specs.Totals.{totals_base, totals_base_fits, totals_combine, totals_monoid, totals_unit}
use Rattle.aug_monoid.specs.declared.totals.Totals.{Totals}
use Rattle.map_model.specs.Fold.{fold_of}
use Rattle.map_model.specs.Parts.{slice}
use Rattle.map_model.proofs.Folds.{fold-append}
use Rattle.map_model.proofs.NatKeys.{is_ge-nat_cmp, is_le-nat_cmp}
use Rattle.map_model.proofs.Ranges.{slice-append}
use Rattle.map_tool.specs.Values.{range_totals}

abbrev total : List (ℕ × ℕ) → Totals
total m = fold_of (λ (key val : ℕ). totals_base val) totals_unit totals_combine m

-- the totals of the first i entries with keys in the range
pub record Totalled (m : List (ℕ × ℕ)) (lo hi i : ℕ) (t : Totals) : Type 0 where
  pub same : range_totals (take i m) lo hi ≡ t

pub totalled-start : (m : List (ℕ × ℕ)) (lo hi : ℕ) → Totalled m lo hi 0 totals_unit
unfolding range_totals
totalled-start m lo hi = record { same = refl }

one-in : (e : ℕ × ℕ) (lo hi : ℕ) → (nat_le lo e.0 && nat_le e.0 hi) ≡ true → slice nat_cmp (e ∷ []) lo hi ≡ e ∷ []
one-in e lo hi is = rw (is_ge-nat_cmp e.0 lo, is_le-nat_cmp e.0 hi, is) refl

one-out : (e : ℕ × ℕ) (lo hi : ℕ) → (nat_le lo e.0 && nat_le e.0 hi) ≡ false → slice nat_cmp (e ∷ []) lo hi ≡ []
one-out e lo hi is = rw (is_ge-nat_cmp e.0 lo, is_le-nat_cmp e.0 hi, is) refl

next : (m : List (ℕ × ℕ)) (lo hi i : ℕ) → i < length m → slice nat_cmp (take (i + 1) m) lo hi ≡ slice nat_cmp (take i m) lo hi ++ slice nat_cmp (get_or m i (0, 0) ∷ []) lo hi
next m lo hi i h = ap (λ l. slice nat_cmp l lo hi) (take_more m i (0, 0) h) ∙ slice-append nat_cmp (take i m) (get_or m i (0, 0) ∷ []) lo hi

joined : (l r : List (ℕ × ℕ)) → total (l ++ r) ≡ totals_combine (total l) (total r)
joined l r = fold-append totals_monoid (λ key val. totals_base_fits val) l r

one : (e : ℕ × ℕ) → total (e ∷ []) ≡ totals_base e.1
one e = totals_monoid.right_unit (totals_base e.1) (totals_base_fits e.1)

-- one entry more, which counts where its key is in the range
pub totalled-next : (m : List (ℕ × ℕ)) (lo hi i : ℕ) (t : Totals) → i < length m → Totalled m lo hi i t
    → Totalled m lo hi (i + 1) (cond (nat_le lo (get_or m i (0, 0)).0 && nat_le (get_or m i (0, 0)).0 hi) (totals_combine t (totals_base (get_or m i (0, 0)).1)) t)
unfolding range_totals
totalled-next m lo hi i t h so_far = elim (cases_Bool (nat_le lo (get_or m i (0, 0)).0 && nat_le (get_or m i (0, 0)).0 hi)) [
  | inl within ↦ rw within (record {
    same = ap total (next m lo hi i h ∙ ap (λ l. slice nat_cmp (take i m) lo hi ++ l) (one-in (get_or m i (0, 0)) lo hi within)) ∙ joined (slice nat_cmp (take i m) lo hi) (get_or m i (0, 0) ∷ [])
        ∙ ap₂ totals_combine so_far.same (one (get_or m i (0, 0)));
  })
  | inr beside ↦ rw beside (record {
    same = ap total (next m lo hi i h ∙ ap (λ l. slice nat_cmp (take i m) lo hi ++ l) (one-out (get_or m i (0, 0)) lo hi beside) ∙ append-nil (slice nat_cmp (take i m) lo hi)) ∙ so_far.same;
  })
]

pub totalled-end : (m : List (ℕ × ℕ)) (lo hi i : ℕ) (t : Totals) → length m ≤ i → Totalled m lo hi i t → range_totals m lo hi ≡ t
totalled-end m lo hi i t h so_far = ap (λ l. range_totals l lo hi) (sym (take_all i m h)) ∙ so_far.same
