-- The value that a put hands out.
use Rattle.std.proofs.Common.{◌≡◌, ℕ, ◌+◌, ◌≤◌, ◌↔◌, List, Bool, true, false, Option, None, IsTrue, is_some, length, refl, sym, ap, ◌∙◌, arith}
use Rattle.std.specs.Prelude.{IsSome}
use Rattle.std.specs.Cmp.{IsTotalOrder}
use Rattle.std.specs.List.{slice_get}
use Rattle.std.specs.Option.{option_map}
use Rattle.std.specs.declared.cmp.Ordering.{Ordering}
use Rattle.std.proofs.lemmas.Bool.{false_from_ne_true, false≢true}
use Rattle.map_model.specs.Entries.{IsIncreasing, below, lookup}
use Rattle.map_model.specs.Order.{IsExact}
use Rattle.map_model.proofs.Cuts.{lookup_at_place, none_of_absent}
use Rattle.tree_change.specs.Looks.{look_cost}

-- a look-up in a side takes no more than one in the map
pub look_in_side : (is_wanted : Bool) (side height find : ℕ) → side + 1 ≤ height → look_cost is_wanted side find ≤ look_cost is_wanted height find
look_in_side true side height find lower = omega (arith, lower)
look_in_side false side height find lower = omega arith

module _ {K V : Type 0} {order : K → K → Ordering} (total : IsTotalOrder order) (exact : IsExact order) where
  -- the value at the place of a key that is there, and else none, is the value at the key
  pub handed_out : (m : List (K × V)) (q : K) (at : ℕ) (hit : Bool) (old new : Option V) → IsIncreasing order m → at ≡ length (below order m q) → IsTrue hit ↔ IsSome (lookup order m q)
      → (IsTrue hit → new ≡ option_map (λ (e : K × V). e.1) (slice_get m at)) → ((¬ (IsTrue hit)) → new ≡ old) → old ≡ None → new ≡ lookup order m q
  handed_out m q at true old new rises at_is hit_is found missed unset =
      found refl ∙ ap (λ n. option_map (λ (e : K × V). e.1) (slice_get m n)) at_is ∙ sym (lookup_at_place total exact m q rises (hit_is.0 refl))
  handed_out m q at false old new rises at_is hit_is found missed unset =
      missed (λ h. false≢true h) ∙ unset ∙ sym (none_of_absent _ (false_from_ne_true _ (λ h. false≢true (hit_is.1 h))))
