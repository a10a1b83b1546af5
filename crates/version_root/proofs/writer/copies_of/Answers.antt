use Rattle.std.proofs.Common.{◌≡◌, ◌+◌, Some, vec_len, ap, arith}
use Rattle.version_root.proofs.Copies.{copies_more}
use Rattle.version_root.proofs.writer.copies_of.Goals as goal

pub loop-preserved : goal.loop-preserved
loop-preserved g c =
    let before = c.loop.invariant.0 in
    let pushed = c.in_ok-push.ensures.len in
    let count : vec_len c.push.new.self ≡ c.loop.counter + 1 = omega (arith, before, pushed) in
    (count, copies_more (Some c.args.version.now) (Some c.in_ok-apart.field-0) c.loop.copies.items c.push.new.self.items c.in_ok-push.ensures.items (ap (λ v. Some v) c.in_ok-apart.ensures) c.loop.invariant.1)
