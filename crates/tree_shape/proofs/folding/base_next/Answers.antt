use Rattle.std.proofs.Common.{◌≡◌, Some, None, sym, ap, ◌∙◌}
use Rattle.std.specs.List.{slice_get}
use Rattle.std.specs.Option.{option_map}
use Rattle.map_model.proofs.Folds.{fold-one}
use Rattle.map_model.proofs.Places.{entry_there}
use Rattle.aug_monoid.specs.Lending.{entry_of}
use Rattle.tree_shape.proofs.Nodes.{drop_at}
use Rattle.tree_shape.proofs.folding.base_next.Goals as goal

pub returns-clause-value : goal.returns-clause-value
returns-clause-value g t =
    let law = g.met.A.Augment in
    let entries = g.L.Leaf.entries t.args.leaf.now in
    let at = t.args.walk.now.index in
    let entry = entry_of t.in-Some.entry in
    let found : slice_get entries at ≡ Some entry = sym t.walk_next.ensures.value ∙ ap (option_map entry_of) t.in-Some.is in
    rw (drop_at entries at entry found, fold-one law.monoid law.base_fits entry.0 entry.1) (rw (t.key.ensures, t.val.ensures) at t.base.ensures.value)

pub unreachable-requires : goal.unreachable-requires
unreachable-requires g c =
    let entries = g.L.Leaf.entries c.args.leaf.now in
    let at = c.args.walk.now.index in
    let none : slice_get entries at ≡ None = sym c.walk_next.ensures.value ∙ ap (option_map entry_of) c.in_default.is in
    entry_there entries at c.requires.inside none
