use Rattle.std.proofs.lemmas.Option.{MatchOption-at_some}
use Rattle.std.proofs.lemmas.Result.{IfOk-weaker}
use Rattle.graph_snap.specs.Merging.{IsOnlyElement}
use Rattle.graph_snap.proofs.Elements.{put_is_merged}
use Rattle.graph_snap.proofs.neighbours.either_of.Goals as goal

pub returns-in-Some : goal.returns-in-Some
returns-in-Some c =
    let only : IsOnlyElement c.args.b.now.entries c.in-Some.element = MatchOption-at_some _ (λ e. IsOnlyElement c.args.b.now.entries e) c.in-Some.element c.in-Some.is c.in_ok-element.ensures in
    IfOk-weaker c.put_element.result _ _ (λ more h. put_is_merged c.args.a.now.entries c.args.b.now.entries more.entries c.in-Some.element only h) c.put_element.ensures
