-- Entries, and their rows and cells.
use Rattle.std.proofs.Common.{◌≡◌, ℕ, ◌+◌, List, ◌∷◌, ◌++◌, map, take, drop, sym, ap, ap₂, subst, ◌∙◌}
use Rattle.std.proofs.lemmas.List.{take-map, drop-map, map-append}
use Rattle.aug_monoid.specs.declared.pair64.Pair64.{Pair64}
use Rattle.aug_monoid.specs.Exact.{pair64_cmp}
use Rattle.map_model.specs.Entries.{IsIncreasing}
use Rattle.row_leaf.specs.declared.cell.Cell.{Cell}
use Rattle.row_leaf.specs.Code.{cell, place_entry}

-- parts of entries as parts of their rows and cells
module _ (cells : List (ℕ × Cell)) where
  pub front_same : (at : ℕ) → map place_entry (take at cells) ≡ take at (map place_entry cells)
  front_same at = sym (take-map place_entry at cells)

  pub back_same : (at : ℕ) → map place_entry (drop at cells) ≡ drop at (map place_entry cells)
  back_same at = sym (drop-map place_entry at cells)

  pub joined_same : (right : List (ℕ × Cell)) (key : Pair64) (weight : ℕ) → map place_entry (cells ++ (key.first, cell key.second weight) ∷ right) ≡ map place_entry cells ++ (key, weight) ∷ map place_entry right
  joined_same right key weight = map-append place_entry cells ((key.first, cell key.second weight) ∷ right)

  pub spliced_same : (at upto : ℕ) (key : Pair64) (weight : ℕ) → map place_entry (take at cells ++ (key.first, cell key.second weight) ∷ drop upto cells) ≡ take at (map place_entry cells) ++ (key, weight) ∷ drop upto (map place_entry cells)
  spliced_same at upto key weight =
      map-append place_entry (take at cells) ((key.first, cell key.second weight) ∷ drop upto cells)
      ∙ ap₂ (λ l r. l ++ (key, weight) ∷ r) (front_same at) (back_same upto)

  pub without_same : (at : ℕ) → map place_entry (take at cells ++ drop (at + 1) cells) ≡ take at (map place_entry cells) ++ drop (at + 1) (map place_entry cells)
  without_same at = map-append place_entry (take at cells) (drop (at + 1) cells) ∙ ap₂ (λ l r. l ++ r) (front_same at) (back_same (at + 1))

-- rows and cells whose entries rise
pub rise : (gaps cells : List (ℕ × Cell)) (entries : List (Pair64 × ℕ)) → gaps ≡ cells → map place_entry cells ≡ entries → IsIncreasing pair64_cmp entries → IsIncreasing pair64_cmp (map place_entry gaps)
rise gaps cells entries is same increasing = subst (λ (m : List (Pair64 × ℕ)). IsIncreasing pair64_cmp m) (sym (ap (map place_entry) is ∙ same)) increasing
