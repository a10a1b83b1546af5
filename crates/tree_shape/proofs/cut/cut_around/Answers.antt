use Rattle.std.proofs.Common.{◌≡◌, Some, None, sym, ap, ◌∙◌}
use Rattle.std.specs.List.{slice_get}
use Rattle.std.specs.Option.{option_map}
use Rattle.map_model.proofs.Places.{entry_there}
use Rattle.aug_monoid.specs.Lending.{entry_of}
use Rattle.tree_shape.proofs.Nodes.{cut_around}
use Rattle.tree_shape.proofs.cut.cut_around.Goals as goal

pub returns : goal.returns
returns g c =
    let entries = g.L.Leaf.entries c.args.leaf.now in
    let middle = entry_of c.in-Some.middle in
    let found : slice_get entries c.args.at ≡ Some middle = sym c.get_at.ensures ∙ ap (option_map entry_of) c.in-Some.is in
    rw c.in_ok-key.ensures.value (cut_around entries c.args.at _ _ middle c.requires c.in_ok-front.ensures c.in_ok-back.ensures found)

pub unreachable-requires : goal.unreachable-requires
unreachable-requires g c =
    let entries = g.L.Leaf.entries c.args.leaf.now in
    let none : slice_get entries c.args.at ≡ None = sym c.get_at.ensures ∙ ap (option_map entry_of) c.in_default.is in
    entry_there entries c.args.at c.requires none
