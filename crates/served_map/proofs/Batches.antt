-- Batches one after another.
use Rattle.std.proofs.Common.{◌≡◌, ◌∙◌, ℕ, ◌<◌, ◌+◌, List, [], ◌∷◌, ◌++◌, length, get_or, take, sym, ap}
use Rattle.std.specs.Prelude.{fold}
use Rattle.std.specs.List.{flat_map}
use Rattle.std.proofs.lemmas.Grind.{take_at_read, flat_map-append, fold-append}
use Rattle.std.proofs.lemmas.List.{append-nil}
use Rattle.versions.specs.History.{after}

-- one more batch
pub after_more : {S O : Type 0} (step : S → O → S) (base now next : S) (batches : List (List O)) (i : ℕ) (batch : List O) → i < length batches → batch ≡ get_or batches i batch → now ≡ after step base (take i batches)
    → next ≡ fold step now batch → next ≡ after step base (take (i + 1) batches)
after_more {S} {O} step base now next batches i batch inside here is goes =
    goes ∙ ap (λ (s : S). fold step s batch) is
    ∙ sym (fold-append step base (flat_map (λ (l : List O). l) (take i batches)) batch)
    ∙ ap (fold step base) (ap (λ (l : List O). flat_map (λ (k : List O). k) (take i batches) ++ l) (sym (append-nil batch)) ∙ sym (flat_map-append (λ (l : List O). l) (take i batches) (batch ∷ [])))
    ∙ ap (after step base) (ap (λ (b : List O). take i batches ++ b ∷ []) here ∙ sym (take_at_read batches i batch inside).1)
