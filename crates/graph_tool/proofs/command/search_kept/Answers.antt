use Rattle.std.proofs.Common.{◌≡◌, ◌++◌, refl, subst, sym}
use Rattle.std.specs.Result.{OnOk}
use Rattle.std.proofs.lemmas.Bool.{ltb-true}
use Rattle.std.proofs.lemmas.Option.{slice_get_read}
use Rattle.graph_tool.specs.Effects.{search_line}
use Rattle.graph_tool.proofs.command.search_kept.Goals as goal

pub returns-in-Some : goal.returns-in-Some
returns-in-Some g c =
    let kept = c.args.kept.now in
    let graph = c.in-Some.graph.now in
    subst (λ found. OnOk c.search.result (c.search.new.text.items ≡ c.args.text.now.items ++ search_line found c.args.from))
    (sym (slice_get_read kept _ c.args.number graph refl (ltb-true _ _ (sym c.in-Some.ensures.lookup.0)) c.in-Some.ensures.lookup.1))
    c.search.ensures
