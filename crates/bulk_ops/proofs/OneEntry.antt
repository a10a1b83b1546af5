-- A map combined with one entry.
use Rattle.std.proofs.Common.{◌≡◌, List, [], ◌∷◌, ◌++◌, Bool, true, false, Some, sym, ap, ◌∙◌, cond}
use Rattle.std.specs.List.{cons_option}
use Rattle.std.specs.declared.cmp.Ordering.{Ordering}
use Rattle.map_model.specs.Entries.{IsIncreasing, lookup, below, above}
use Rattle.map_model.proofs.Splits.{IsIncreasing-below, IsIncreasing-above}
use Rattle.bulk_ops.specs.Combination.{IsCombination, entry_at}

module _ {K V : Type 0} {order : K → K → Ordering} {combined : List (K × V) → List (K × V) → List (K × V)} {kept : _} {first second : Bool} (laws : IsCombination order combined kept first second) where
  pub one_changed : (tree : List (K × V)) (k : K) (w : V) → IsIncreasing order tree → first ≡ true → below order tree k ++ cons_option (entry_at k (kept (lookup order tree k) (Some w))) (above order tree k) ≡ combined tree ((k, w) ∷ [])
  one_changed tree k w s stays =
      let front = laws.first_alone (below order tree k) (IsIncreasing-below order tree k s) ∙ ap (λ b. cond b (below order tree k) []) stays in
      let back = laws.first_alone (above order tree k) (IsIncreasing-above order tree k s) ∙ ap (λ b. cond b (above order tree k) []) stays in
      sym (rw (front, back) at (laws.split_second tree [] k w [] s (tt, tt)))

  pub one_left : (tree : List (K × V)) (k : K) (w : V) → IsIncreasing order tree → first ≡ false → cons_option (entry_at k (kept (lookup order tree k) (Some w))) [] ≡ combined tree ((k, w) ∷ [])
  one_left tree k w s goes =
      let front = laws.first_alone (below order tree k) (IsIncreasing-below order tree k s) ∙ ap (λ b. cond b (below order tree k) []) goes in
      let back = laws.first_alone (above order tree k) (IsIncreasing-above order tree k s) ∙ ap (λ b. cond b (above order tree k) []) goes in
      sym (rw (front, back) at (laws.split_second tree [] k w [] s (tt, tt)))
