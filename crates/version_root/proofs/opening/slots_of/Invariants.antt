use Rattle.std.proofs.Common.{◌≡◌, ℕ, ◌<◌, Some, slice_get, vec_len}
use Rattle.version_root.specs.Root.{IsStripe}
use Rattle.version_root.proofs.opening.slots_of.Given as goal

abbrev pub invariant-loop-at : goal.invariant-loop-at
invariant-loop-at g l = (vec_len l.slots ≡ l.at) × ((i : ℕ) → i < l.at → IsStripe i → slice_get l.slots.items i ≡ Some (Some l.version))
