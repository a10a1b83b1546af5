use Rattle.std.proofs.Common.{◌≡◌, ◌+◌, Some, length, vec_len, arith}
use Rattle.version_root.specs.Root.{IsStripe}
use Rattle.version_root.proofs.Copies.{picked_more}
use Rattle.version_root.proofs.opening.slots_of.Goals as goal

pub loop-at-preserved : goal.loop-at-preserved
loop-at-preserved g c =
    let before = c.loop-at.invariant.0 in
    let pushed = c.in_ok-push.ensures.len in
    let count : vec_len c.push.new.self ≡ c.loop-at.at + 1 = omega (arith, before, pushed) in
    let long : length c.loop-at.slots.items ≡ c.loop-at.at = grind arith in
    (count, picked_more IsStripe (Some c.args.version.now) c.in_ok-slot.slot c.loop-at.slots.items c.push.new.self.items c.loop-at.at long c.in_ok-push.ensures.items c.in_ok-slot.ensures c.loop-at.invariant.1)
