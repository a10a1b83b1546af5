use Rattle.std.proofs.Common.{◌∙◌, ℕ, List, [], ◌∷◌, reverse, sym, subst}
use Rattle.graph_order.specs.Searches.{Closes, IsOpen, walk_of}
use Rattle.graph_order.specs.declared.search.Frame.{Frame}
use Rattle.graph_order.proofs.Going.{gone_on, is_there, not_there}
use Rattle.graph_order.proofs.search.go_from.Goals as goal

pub returns-then-is_some : goal.returns-then-is_some
returns-then-is_some c =
    ((c.requires.search, c.requires.none, λ u none. none), λ none. is_there c.in_ok-get.field-0 (sym c.is_some.ensures ∙ c.if-is_some.true) (c.in_ok-get.ensures.value ∙ none))

pub go_to-requires-clause-new : goal.go_to-requires-clause-new
go_to-requires-clause-new c = sym c.in_ok-get.ensures.value ∙ not_there c.in_ok-get.field-0 (sym c.is_some.ensures ∙ c.if-is_some.false)

pub go_to-requires-clause-live : goal.go_to-requires-clause-live
go_to-requires-clause-live c =
    subst (λ (walk : List Frame). IsOpen c.args.graph.now (reverse c.args.search.now.done.items) (c.args.vertex ∷ []) (walk_of walk)) (sym c.requires.none) tt

pub returns : goal.returns
returns c =
    let found = c.go_on.new.search in
    gone_on c.args.graph.now c.args.search.now c.go_to.new.search found c.args.vertex (λ (w : ℕ). Closes c.args.graph.now (reverse found.done.items) (walk_of found.walk.items) w) c.go_on.result c.in_ok-go_to.ensures.kept c.in_ok-go_to.ensures.marked c.go_on.ensures
