use Rattle.std.proofs.Common.{◌≡◌, ◌∙◌, ◌+◌, [], ◌∷◌, ◌++◌, ap, append-nil, append_assoc, cond, drop, false, get_or, rules, sym}
use Rattle.std.proofs.lemmas.List.{drop_all, drop_more}
use Rattle.put_runs.specs.Places.{counted}
use Rattle.put_runs.proofs.marks.counts.Goals as goal
use Rattle.put_runs.proofs.marks.counts.Goals.{then-mark+in_ok-size, else-mark}

pub loop-mark-preserved : goal.loop-mark-preserved
loop-mark-preserved c =
    let marks = c.args.marks.now in
    let i = c.loop-mark.mark-index in
    let sizes = c.loop-mark.sizes.items in
    let rest = drop (i + 1) marks in
    let size : c.if-mark.size ≡ cond (get_or marks i false) (c.loop-mark.size + 1) c.loop-mark.size = elim c.if-mark.branch [
      | then-mark+in_ok-size w ↦ rw w.if-mark.true (w.size-is ∙ search rules)
      | else-mark w ↦ rw w.if-mark.false w.size-is
    ] in
    c.loop-mark.invariant
    ∙ ap (λ left. sizes ++ counted c.loop-mark.size left) (drop_more marks i false c.loop-mark-test.true)
    ∙ ap (λ n. sizes ++ n ∷ counted n rest) (sym size)
    ∙ sym (append_assoc sizes (c.if-mark.size ∷ []) (counted c.if-mark.size rest))
    ∙ ap (λ made. made ++ counted c.if-mark.size rest) (sym c.in_ok-push.ensures.items)

pub returns : goal.returns
returns c =
    sym (c.loop-mark.invariant
    ∙ ap (λ marks. c.loop-mark.sizes.items ++ counted c.loop-mark.size marks) (drop_all c.loop-mark.mark-index c.args.marks.now c.loop-mark-test.false)
    ∙ append-nil c.loop-mark.sizes.items)
