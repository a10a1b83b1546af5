use Rattle.std.proofs.Common.{◌≡◌, ◌++◌, take, drop, length, subst, rules, arith, ap, ◌∙◌}
use Rattle.std.proofs.lemmas.Grind.{common_steps}
use Rattle.std.proofs.lemmas.Result.{IfOk-weaker}
use Rattle.std.specs.List.Sorted.{IsStableBy}
use Rattle.inverted_index.specs.Queries.{hits_of}
use Rattle.inverted_index.specs.Ranks.{heavier}
use Rattle.inverted_index.proofs.ByWeight.{sorted_ranking}
use Rattle.inverted_index.proofs.ranking.top_by_sorting.Goals as goal

pub returns : goal.returns
returns c =
    let es = c.args.weights.now.entries in
    let sorted = c.sort_by_weight.new.entries in
    let old = c.in_ok-entries.entries in
    let whole : take old.len (sorted ++ drop (length sorted) old.items) ≡ sorted = grind (arith, common_steps) in
    let given : c.as_mut_slice.result.now ≡ es = search rules in
    let stable : IsStableBy heavier es sorted = subst (λ xs. IsStableBy heavier xs sorted) given c.in_ok-sort_by_weight.ensures.stable in
    let ranking = c.deref.ensures.value ∙ whole ∙ sorted_ranking es sorted c.size-number.ensures.increasing c.in_ok-sort_by_weight.ensures.sorted stable in
    IfOk-weaker c.first_hits.result _ _ (λ hits h. h ∙ ap (λ m. hits_of (take c.args.k m)) ranking) c.first_hits.ensures
