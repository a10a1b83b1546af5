use Rattle.std.proofs.Common.{◌≡◌, Some, None, ◌∙◌, sym, ap}
use Rattle.std.specs.List.{slice_get}
use Rattle.std.specs.Option.{option_map}
use Rattle.map_model.proofs.Cuts.{lookup_at_place}
use Rattle.aug_monoid.specs.Lending.{entry_of}
use Rattle.tree_entry.proofs.gets.get_in_leaf.Goals as goal

pub returns-in_ok-into_val-in-Some-clause-value : goal.returns-in_ok-into_val-in-Some-clause-value
returns-in_ok-into_val-in-Some-clause-value g c =
    let entries = g.L.Leaf.entries c.args.leaf.now in
    let e = lookup_at_place g.met.K.Ord.total g.met.K.Key.exact entries c.args.key.now c.requires.increasing (c.seek-place.ensures.hit.0 c.if-not-place.false) in
    let found : slice_get entries c.seek-place.result.at ≡ Some (entry_of c.in-Some.entry) = sym c.get_at.ensures ∙ ap (option_map entry_of) c.in-Some.is in
    rw c.in_ok-into_val-in-Some.ensures.value (sym (e ∙ ap (option_map (λ (e : g.row.K.Denot × g.row.V.Denot). e.1)) (rw c.seek-place.ensures.at at found)))

pub returns-in-None-clause-value : goal.returns-in-None-clause-value
returns-in-None-clause-value g c =
    let entries = g.L.Leaf.entries c.args.leaf.now in
    let e = lookup_at_place g.met.K.Ord.total g.met.K.Key.exact entries c.args.key.now c.requires.increasing (c.seek-place.ensures.hit.0 c.if-not-place.false) in
    let found : slice_get entries c.seek-place.result.at ≡ None = sym c.get_at.ensures ∙ ap (option_map entry_of) c.in-None.is in
    sym (e ∙ ap (option_map (λ (e : g.row.K.Denot × g.row.V.Denot). e.1)) (rw c.seek-place.ensures.at at found))
