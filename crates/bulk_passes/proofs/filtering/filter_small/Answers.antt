use Rattle.std.proofs.Common.{◌≡◌, subst, sym, ap, ◌∙◌, ◌++◌}
use Rattle.std.specs.List.{filter}
use Rattle.std.proofs.lemmas.Result.{IfOk-weaker}
use Rattle.map_model.specs.Entries.{IsIncreasing}
use Rattle.map_model.proofs.Keys.{IsIncreasing-filter}
use Rattle.bulk_passes.proofs.filtering.filter_small.Goals as goal

pub tree_of-requires : goal.tree_of-requires
tree_of-requires g c =
    let p = λ (e : g.row.M-Key.Denot × g.row.M-Val.Denot). g.T.Test.passes c.args.test.now e.0 e.1 in
    let is : c.filter_into.new.out.items ≡ filter p c.args.tree.now.entries = c.in_ok-filter_into.ensures.value ∙ ap (λ x. x ++ filter p c.args.tree.now.entries) c.in_ok-kept.ensures.items in
    record { increasing = subst (IsIncreasing g.M.Key.Ord.cmp) (sym is) (IsIncreasing-filter g.M.Key.Ord.cmp p c.args.tree.now.entries c.size-size.ensures.increasing) }

pub returns-clause-value : goal.returns-clause-value
returns-clause-value g c =
    let p = λ (e : g.row.M-Key.Denot × g.row.M-Val.Denot). g.T.Test.passes c.args.test.now e.0 e.1 in
    IfOk-weaker c.tree_of.result _ _ (λ kept is. is ∙ c.in_ok-filter_into.ensures.value ∙ ap (λ x. x ++ filter p c.args.tree.now.entries) c.in_ok-kept.ensures.items) c.tree_of.ensures
