use Rattle.std.proofs.Common.{sym, subst}
use Rattle.std.specs.List.Sorted.{IsPermutation}
use Rattle.std.proofs.lemmas.Result.{IfOk-weaker}
use Rattle.run_check.specs.Placing.{tags_of}
use Rattle.run_check.proofs.Keyed.{found_more, keyed_permutation}
use Rattle.run_check.proofs.placed.in_order.Goals as goal

pub returns-then-branch : goal.returns-then-branch
returns-then-branch g c =
    let perm : IsPermutation (tags_of c.args.placed.now) c.args.order.now = c.in_ok-is_permutation.ensures.0 c.if-branch.true in
    IfOk-weaker c.picked.result _ _ (λ o found. found_more _ _ _ (λ ordered is.
    (is.0, keyed_permutation (λ p. p.entry.tag) c.args.placed.now ordered.items is.1 (subst (IsPermutation (tags_of c.args.placed.now)) (sym is.0) perm))) o found) c.picked.ensures
