use Rattle.std.proofs.Common.{ℕ, List, ◌∙◌, subst}
use Rattle.std.proofs.lemmas.Result.{IfOk-weaker}
use Rattle.std.specs.List.{filter_map}
use Rattle.std.specs.List.Sorted.{IsStableByKey}
use Rattle.std.specs.Ordering.{nat_cmp}
use Rattle.op_runs.specs.declared.outcome.Outcome.{Outcome}
use Rattle.op_runs.specs.Steps.{change_of}
use Rattle.op_runs.proofs.KeptOrder.{changes_at-stable, keys-stable}
use Rattle.op_runs.proofs.RunLaws.{changes_at-ops, keys-ops}
use Rattle.op_runs.proofs.sorting.sorted_changes.Goals as goal

pub returns-clause-same : goal.returns-clause-same
returns-clause-same g c = IfOk-weaker c.sorted_pairs.result _ _ (λ v stable q.
    let changes = filter_map change_of c.args.ops.now in
    changes_at-stable changes v.items (subst (λ (xs : List (ℕ × Outcome)). IsStableByKey (λ (e : ℕ × Outcome). e.0) nat_cmp xs v.items) c.in_ok-changes.ensures stable) q ∙ changes_at-ops c.args.ops.now q c.requires.singles) c.sorted_pairs.ensures.stable

pub returns-clause-keys : goal.returns-clause-keys
returns-clause-keys g c = IfOk-weaker c.sorted_pairs.result _ _ (λ v stable q.
    let changes = filter_map change_of c.args.ops.now in
    keys-stable changes v.items (subst (λ (xs : List (ℕ × Outcome)). IsStableByKey (λ (e : ℕ × Outcome). e.0) nat_cmp xs v.items) c.in_ok-changes.ensures stable) q ∙ keys-ops c.args.ops.now q) c.sorted_pairs.ensures.stable
