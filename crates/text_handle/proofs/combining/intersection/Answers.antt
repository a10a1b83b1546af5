use Rattle.std.proofs.Common.{◌≡◌, ap₂, ◌∙◌}
use Rattle.map_model.specs.SetOperations.{intersect}
use Rattle.map_handle.specs.Hows.{how_at, resolved_by}
use Rattle.text_handle.specs.Keys.{bytes_cmp}
use Rattle.text_handle.proofs.Combined.{becomes_made, shared_is}
use Rattle.text_handle.proofs.combining.intersection.Goals as goal

pub returns-in-Ok-clause-made : goal.returns-in-Ok-clause-made
returns-in-Ok-clause-made c =
    let first = c.in-Some-take.first.value in
    let second = c.in-Some-take-2.second.value in
    let a : c.behind-first.inside.map ≡ first = c.behind-first.view_is ∙ c.deref.ensures in
    let b : c.behind-second.inside.map ≡ second = c.behind-second.view_is ∙ c.deref-2.ensures in
    let made = shared_is (how_at c.args.how) c.args.a.now.entries c.args.b.now.entries c.in-Some.resolve first second c.in-Ok.both c.in-Some.ensures c.in-Some-take.ensures.kept c.in-Some-take-2.ensures.kept (c.in-Ok.ensures ∙ ap₂ (intersect bytes_cmp (resolved_by c.in-Some.resolve)) a b) in
    becomes_made c.args.out.now.entries c.is_open.result _ c.in-Ok.both c.open.result c.open.new.out.entries c.is_open.ensures c.if-is_open.false made c.open.ensures
