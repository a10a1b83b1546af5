-- A slice cut around an entry.
use Rattle.std.proofs.Common.{◌≡◌, List, ◌∷◌, ◌++◌, Some, subst}
use Rattle.std.specs.Borrow.{Bor}
use Rattle.std.specs.declared.cmp.Ordering.{Ordering}
use Rattle.map_model.specs.Entries.{IsIncreasing}
use Rattle.bulk_passes.specs.Answers.{IsPutTogether, slice_entries}

module _ {K V : Type 0} (order : K → K → Ordering) where
  pub cut_slice : (part front back : Bor (List (K × V))) (e : K × V) → part.now ≡ front.now ++ e ∷ back.now → IsIncreasing order part.now → IsPutTogether order slice_entries part front (Some e) back
  cut_slice part front back e is s = record { whole = is; increasing = subst (IsIncreasing order) is s }
