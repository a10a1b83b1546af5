-- A map that outcomes of operations change is the map after the operations.
use Rattle.std.proofs.Common.{◌≡◌, ℕ, List, sym, ap, ◌∙◌}
use Rattle.std.specs.Prelude.{fold}
use Rattle.std.specs.List.{list_any}
use Rattle.std.specs.Ordering.{nat_cmp}
use Rattle.std.specs.Cmp.{nat_cmp_total}
use Rattle.map_model.specs.Entries.{IsIncreasing, lookup}
use Rattle.map_model.proofs.Lookups.{equal_lookups}
use Rattle.map_model.proofs.NatKeys.{nat_exact}
use Rattle.op_runs.specs.declared.op.Op.{Op}
use Rattle.op_runs.specs.declared.outcome.Outcome.{Outcome}
use Rattle.op_runs.specs.Outcomes.{left_by}
use Rattle.op_runs.specs.Runs.{AreOutcomes, IsChangedBy, IsComposed, outcome_in}
use Rattle.op_runs.specs.Steps.{changes_at, changes_key, is_of, outcome_at, step}
use Rattle.op_runs.proofs.RunLaws.{IsIncreasing-run, lookup-run}

changed_is_after : (ops : List Op) (outcomes : List (ℕ × Outcome)) → ((q : ℕ) → outcome_in outcomes q ≡ outcome_at ops q) → (m changed : List (ℕ × ℕ)) → IsIncreasing nat_cmp m → IsChangedBy outcomes m changed → changed ≡ fold step m ops
changed_is_after ops outcomes found m changed s by =
    equal_lookups nat_cmp_total nat_exact changed (fold step m ops) by.rises (IsIncreasing-run ops m s) (λ q.
    by.value_at q ∙ ap (λ o. left_by o (lookup nat_cmp m q)) (found q) ∙ sym (lookup-run ops m q))

-- outcomes that are composed of the changes of operations
pub outcomes_composed : (ops : List Op) (changes outcomes : List (ℕ × Outcome)) → IsComposed changes outcomes → ((q : ℕ) → changes_at changes q ≡ outcome_at ops q)
    → ((q : ℕ) → list_any (changes_key q) changes ≡ list_any (is_of q) ops) → AreOutcomes ops outcomes
outcomes_composed ops changes outcomes composed same keys =
    let found : (q : ℕ) → outcome_in outcomes q ≡ outcome_at ops q = λ q. composed.found_at q ∙ same q in
    record {
      rise = composed.rises;
      found_at = found;
      listed = λ q. composed.listed q ∙ keys q;
      do_them = changed_is_after ops outcomes found;
    }
