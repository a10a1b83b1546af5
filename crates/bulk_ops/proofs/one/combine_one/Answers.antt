use Rattle.std.proofs.Common.{rules, ◌≡◌, [], ◌++◌, Some, IfOk, sym, ap, ◌∙◌, subst}
use Rattle.std.specs.List.{cons_option}
use Rattle.map_model.specs.Entries.{above, below, lookup}
use Rattle.bulk_ops.specs.Combination.{entry_at}
use Rattle.bulk_ops.proofs.OneEntry.{one_changed, one_left}
use Rattle.bulk_ops.proofs.one.combine_one.Goals as goal

pub returns-then-keeps_first-clause-value : goal.returns-then-keeps_first-clause-value
returns-then-keeps_first-clause-value g c =
    let order = g.M.Key.Ord.cmp in
    let tree = c.args.tree.now.entries in
    let key = c.args.entry.now.0 in
    let kept = g.W.Combination.kept c.args.how.now in
    let found : c.in_ok-kept.kept ≡ kept (lookup order tree key) (Some c.args.entry.now.1) = search rules in
    let whole = one_changed (g.met.W.Combination.laws c.args.how.now) tree key c.args.entry.now.1 c.size-size.ensures.increasing (sym c.keeps_first.ensures ∙ c.if-keeps_first.true) in
    subst (λ l. IfOk c.changed.result (λ out. out.entries ≡ l)) (ap (λ o. below order tree key ++ cons_option (entry_at key o) (above order tree key)) found ∙ whole) c.changed.ensures.value

pub returns-clause-value : goal.returns-clause-value
returns-clause-value g c =
    let order = g.M.Key.Ord.cmp in
    let tree = c.args.tree.now.entries in
    let key = c.args.entry.now.0 in
    let kept = g.W.Combination.kept c.args.how.now in
    let found : c.in_ok-kept.kept ≡ kept (lookup order tree key) (Some c.args.entry.now.1) = search rules in
    let whole = one_left (g.met.W.Combination.laws c.args.how.now) tree key c.args.entry.now.1 c.size-size.ensures.increasing (sym c.keeps_first.ensures ∙ c.if-keeps_first.false) in
    subst (λ l. IfOk c.alone.result (λ out. out.entries ≡ l)) (ap (λ o. cons_option (entry_at key o) []) found ∙ whole) c.alone.ensures.value
