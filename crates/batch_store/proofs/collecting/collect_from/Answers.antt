use Rattle.std.proofs.Common.{◌≡◌, ap, length, arith, vec_len, [], sym, ◌∙◌}
use Rattle.std.proofs.lemmas.List.{append-nil}
use Rattle.batch_store.proofs.Heard.{counted}
use Rattle.batch_store.proofs.collecting.collect_from.Goals as goal

pub file-requires : goal.file-requires
file-requires g c =
    let b = c.beside-count.ensures.left in
    let all = c.in_ok-collect.ensures.all in
    let k = c.in_ok-collect.ensures.moved in
    let e : length k.0 ≡ length b.0 = counted c.beside-count.new.self.received b.0 c.beside-count.new.from.sent c.collect.new.self.received k.0 c.collect.new.from.sent b.1 (ap (λ v. v.sent) c.in_ok-collect.ensures.submitter) all k.1 in
    let n : length c.collect.new.out.items ≡ vec_len c.collect.new.out = grind arith in
    let m : length c.collect.new.out.items ≡ length k.0 = grind (arith, k.2) in
    omega (arith, e, n, m, b.2, c.in_ok-reserve.ensures.ok)

pub returns-in_err-reserve-clause-took : goal.returns-in_err-reserve-clause-took
returns-in_err-reserve-clause-took g c = ([], ap (λ v. v.received) c.beside-count.ensures.intake ∙ sym (append-nil _), c.reserve.ensures.items ∙ sym (append-nil _))
