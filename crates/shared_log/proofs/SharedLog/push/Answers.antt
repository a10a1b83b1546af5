use Rattle.std.proofs.Common.{[], ◌∷◌, length, sym, ◌∙◌, ap, subst, arith, length-append}
use Rattle.shared_log.specs.Pages.{paged, AreFull}
use Rattle.shared_log.proofs.At.{full_more, paged_more}
use Rattle.shared_log.proofs.SharedLog.push.Goals as goal

-- the last page is full, and becomes the last of the full ones
pub invariant_of-result : goal.invariant_of-result
invariant_of-result g c =
    let full = c.self.inside.full in
    let copy = c.in_ok-share.field-0 in
    let pages = c.in_ok-push.field-0 in
    let last = c.in_ok-push-2.field-0 in
    let more = c.in_ok-push.ensures in
    let same = ap length c.in_ok-share.ensures.value in
    let long = ap (λ p. length (paged p)) more ∙ ap length (paged_more full copy) ∙ length-append (paged full) copy in
    let one = ap length c.in_ok-push-2.ensures in
    let none = c.empty.ensures in
    let whole = c.self.invariant.0 in
    let before = length-append (paged full) c.self.inside.last in
    let after = length-append (paged pages) last in
    let is_full = c.if-len-eq-PAGE.true in
    let count = c.len.ensures in
    (grind (arith, long, same, one, none, whole, before, after, length-append), subst (AreFull 32) (sym more) (full_more full copy c.self.invariant.1 (grind (arith, same, is_full, count))), search)

-- the last page has room
pub invariant_of-result-2 : goal.invariant_of-result-2
invariant_of-result-2 g c =
    let full = c.self.inside.full in
    let pages = c.in_ok-share-2.field-0 in
    let last = c.in_ok-push-3.field-0 in
    let same = c.in_ok-share-2.ensures.value in
    let long = ap (λ p. length (paged p)) same in
    let more = ap length c.in_ok-push-3.ensures ∙ length-append c.self.inside.last (c.args.item ∷ []) in
    let before = length-append (paged full) c.self.inside.last in
    let after = length-append (paged pages) last in
    let whole = c.self.invariant.0 in
    (omega (arith, long, more, before, after, whole), subst (AreFull 32) (sym same) c.self.invariant.1, search)
