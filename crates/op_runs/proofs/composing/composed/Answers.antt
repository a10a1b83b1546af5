use Rattle.std.proofs.Common.{◌≡◌, ℕ, ◌∷◌, subst, arith, rules}
use Rattle.std.proofs.lemmas.Grind.{common_steps}
use Rattle.std.specs.List.Sorted.{IsSortedByKey}
use Rattle.std.specs.Ordering.{nat_cmp}
use Rattle.op_runs.specs.declared.outcome.Outcome.{Outcome}
use Rattle.op_runs.proofs.Merging.{composed_is, merged_from}
use Rattle.op_runs.proofs.composing.composed.Goals as goal

pub returns : goal.returns
returns c =
    let first = c.in-Some.first.now in
    let rest = c.in-Some.rest.now in
    let whole : c.args.changes.now ≡ first ∷ rest = search rules in
    let out : c.push-2.new.self.items ≡ merged_from first.0 first.1 rest = grind (arith, common_steps) in
    let sorted : IsSortedByKey (λ (e : ℕ × Outcome). e.0) nat_cmp (first ∷ rest) = subst (λ xs. IsSortedByKey (λ (e : ℕ × Outcome). e.0) nat_cmp xs) whole c.requires.sorted in
    rw (whole, out) (composed_is first.0 first.1 rest sorted)
