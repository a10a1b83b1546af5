use Rattle.std.proofs.Common.{◌≡◌, [], ◌++◌, drop, ap, sym, subst, ◌∙◌, Option, Some}
use Rattle.std.proofs.lemmas.List.{append-nil}
use Rattle.tree_walk.specs.Aheads.{led_by}
use Rattle.tree_walk.specs.Seats.{IsSeat}
use Rattle.tree_walk.proofs.lending.find_following.Goals as goal

pub returns-in-Some : goal.returns-in-Some
returns-in-Some g c =
    let follows = c.requires.follows in
    let ahead = c.args.ahead in
    rw c.farther.ensures (follows.0, follows.1 ∙ ap (λ first. led_by first (led_by ahead.second (led_by ahead.third (led_by ahead.fourth follows.0)))) c.in-Some.is)

pub returns-in-None : goal.returns-in-None
returns-in-None g c =
    subst (λ l. IsSeat g.M.Leaf.Leaf.entries l c.find_seat.result) (append-nil (drop c.args.after c.args.tree.now.entries)) (c.find_seat.ensures.ahead [])
