use Rattle.std.proofs.Common.{◌++◌, ap, refl}
use Rattle.tree_walk.specs.Aheads.{led_by}
use Rattle.tree_walk.proofs.ahead.Ahead.entry.Goals as goal

pub returns-in-Some : goal.returns-in-Some
returns-in-Some g c rest =
    let ahead = c.args.self in
    let more = led_by ahead.second (led_by ahead.third (led_by ahead.fourth rest)) in
    (c.in-Some.next.side.now.entries ++ more, ap (λ first. led_by first more) c.in-Some.is)

pub returns-in-None : goal.returns-in-None
returns-in-None g c rest =
    let ahead = c.args.self in
    let more = led_by ahead.second (led_by ahead.third (led_by ahead.fourth rest)) in
    (more, ap (λ first. led_by first more) c.in-None.is)
