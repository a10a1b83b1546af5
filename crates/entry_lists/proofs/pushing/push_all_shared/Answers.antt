use Rattle.std.proofs.Common.{◌≡◌, ◌+◌, [], ◌∷◌, ◌++◌, take, sym, ap, ◌∙◌, append_assoc, append-nil}
use Rattle.std.proofs.lemmas.List.{take_all, take_more}
use Rattle.map_model.proofs.Prefixes.{front_more}
use Rattle.entry_lists.proofs.pushing.push_all_shared.Goals as goal

pub loop-entry-init : goal.loop-entry-init
loop-entry-init g c = sym (append-nil c.args.into.now.items)

pub loop-entry-preserved : goal.loop-entry-preserved
loop-entry-preserved g c =
    let at = c.loop-entry.entry-index in
    let front = c.args.into.now.items in
    let from = c.args.from.now in
    let entry = c.entry-item.result in
    let more : take (at + 1) from ≡ take at from ++ entry ∷ [] = take_more from at entry c.loop-entry-test.true ∙ ap (λ x. take at from ++ x ∷ []) (sym c.entry-item.is) in
    let longer : c.push_shared.new.into.items ≡ (front ++ take at from) ++ entry ∷ [] = c.in_ok-push_shared.ensures.appended ∙ ap (λ x. x ++ entry ∷ []) c.loop-entry.invariant in
    let whole : (front ++ take at from) ++ entry ∷ [] ≡ front ++ take (at + 1) from = append_assoc front (take at from) (entry ∷ []) ∙ ap (λ x. front ++ x) (sym more) in
    longer ∙ whole

pub returns-in_err-push_shared-clause-kept : goal.returns-in_err-push_shared-clause-kept
returns-in_err-push_shared-clause-kept g c =
    front_more c.args.into.now.items c.push_shared.new.into.items (take c.loop-entry.entry-index c.args.from.now)
    (c.in_err-push_shared.ensures.refused ∙ c.loop-entry.invariant)

pub returns-clause-appended : goal.returns-clause-appended
returns-clause-appended g c = c.loop-entry.invariant ∙ ap (λ x. c.args.into.now.items ++ x) (take_all c.loop-entry.entry-index c.args.from.now c.loop-entry-test.false)

pub returns-clause-kept : goal.returns-clause-kept
returns-clause-kept g c =
    front_more c.args.into.now.items c.loop-entry.into.items (take c.loop-entry.entry-index c.args.from.now) c.loop-entry.invariant
