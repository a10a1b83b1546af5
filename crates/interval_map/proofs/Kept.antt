-- Intervals stay intervals.
use Rattle.std.proofs.Common.{◌≡◌, List, [], ◌∷◌, subst, sym}
use Rattle.std.specs.Prelude.{Result, Ok, Err, IfOk, OnErr}
use Rattle.std.specs.declared.cmp.Ordering.{Ordering}
use Rattle.map_model.specs.Entries.{AllKeys, set}
use Rattle.map_model.specs.Operations.{after, puts}
use Rattle.map_model.proofs.Splits.{AllKeys-set}

module _ {K V : Type 0} (order : K → K → Ordering) (P : K → Type 0) where
  -- what holds of each key still holds after puts of such keys
  pub all_after_puts : (pairs m : List (K × V)) → AllKeys P m → AllKeys P pairs → AllKeys P (after order m (puts pairs))
  all_after_puts [] m a p = a
  all_after_puts (e ∷ pairs) m a p = all_after_puts pairs (set order m e.0 e.1) (AllKeys-set order P m e.0 e.1 a p.0) p.1

-- what holds after a change and of what a refusal leaves holds after the call
pub left_by : {A B X : Type 0} (P : X → Type 0) (r : Result A B) {old new changed : X} → IfOk r (λ _. new ≡ changed) → OnErr r (new ≡ old) → P changed → P old → P new
left_by P (Ok _) done refused p q = subst P (sym done) p
left_by P (Err _) done refused p q = subst P (sym refused) q
