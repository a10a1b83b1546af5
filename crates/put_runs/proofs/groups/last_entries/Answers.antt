use Rattle.std.proofs.Common.{◌∙◌, [], ◌∷◌, ◌++◌, ap, append_assoc, cond, sym}
use Rattle.put_runs.specs.Places.{last_of_each, valued}
use Rattle.put_runs.proofs.groups.last_entries.Goals as goal

pub loop-key-preserved-in_ok-push : goal.loop-key-preserved-in_ok-push
loop-key-preserved-in_ok-push c =
    let entries = c.args.entries.now in
    let lasts = c.loop-key.lasts.items in
    let first = c.in-Some.field-0-0.now in
    let later = c.in-Some.later.now in
    let rest = valued entries (last_of_each later) in
    c.loop-key.invariant
    ∙ ap (λ left. lasts ++ valued entries (last_of_each left)) c.in-Some.ensures.cases.0
    ∙ ap (λ same. lasts ++ valued entries (cond same (last_of_each later) (first ∷ last_of_each later))) (sym c.begins_with.ensures ∙ c.if-not-begins_with.true)
    ∙ ap (λ val. lasts ++ (first.0, val) ∷ rest) (sym c.value_at.ensures)
    ∙ sym (append_assoc lasts ((first.0, c.value_at.result) ∷ []) rest)
    ∙ ap (λ made. made ++ rest) (sym c.in_ok-push.ensures.items)
