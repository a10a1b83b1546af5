use Rattle.std.proofs.Common.{◌≡◌, ◌+◌, [], ◌∷◌, ◌++◌, take, sym, ap, ◌∙◌, append_assoc}
use Rattle.std.proofs.lemmas.List.{take_more}
use Rattle.seq_core.proofs.items.push_items.Goals as goal

pub loop-item-preserved : goal.loop-item-preserved
loop-item-preserved g c =
    let at = c.loop-item.item-index in
    let front = c.args.out.now.items in
    let from = c.args.from.now in
    let item = c.item-item.result in
    let more : take (at + 1) from ≡ take at from ++ item ∷ [] = take_more from at item c.loop-item-test.true ∙ ap (λ x. take at from ++ x ∷ []) (sym c.item-item.is) in
    let pushed : c.push.new.self.items ≡ c.loop-item.out.items ++ item ∷ [] = rw c.in_ok-share.ensures.value at c.in_ok-push.ensures.items in
    pushed ∙ ap (λ x. x ++ item ∷ []) c.loop-item.invariant ∙ append_assoc front (take at from) (item ∷ []) ∙ ap (λ x. front ++ x) (sym more)
