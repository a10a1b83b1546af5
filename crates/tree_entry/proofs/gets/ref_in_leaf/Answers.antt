use Rattle.std.proofs.Common.{◌≡◌, Some, None, ◌∙◌, sym, ap, refl, ltb-true}
use Rattle.std.specs.List.{slice_get}
use Rattle.std.specs.Option.{option_map}
use Rattle.std.proofs.lemmas.Bool.{not-false}
use Rattle.std.proofs.lemmas.Option.{slice_get_past, slice_get_read}
use Rattle.map_model.proofs.Cuts.{lookup_at_place}
use Rattle.tree_entry.proofs.gets.ref_in_leaf.Goals as goal

pub returns-in-Some-clause-value : goal.returns-in-Some-clause-value
returns-in-Some-clause-value g c =
    let at = c.seek-place.result.at in
    let entries = g.L.Leaf.entries c.args.leaf.now in
    let e = lookup_at_place g.met.K.Ord.total g.met.K.Key.exact entries c.args.key.now c.requires.increasing (c.seek-place.ensures.hit.0 (not-false c.seek-place.result.hit c.if-not-place.false)) in
    let lent : slice_get c.as_slice.result.now at ≡ Some c.in-Some.entry.now =
    slice_get_read c.as_slice.result.now _ at c.in-Some.entry.now refl (ltb-true _ _ (sym c.in-Some.ensures.lookup.0)) c.in-Some.ensures.lookup.1 in
    let found : slice_get entries at ≡ Some c.in-Some.entry.now = sym (ap (λ es. slice_get es at) c.as_slice.ensures) ∙ lent in
    sym (e ∙ ap (option_map (λ (e : g.row.K.Denot × g.row.V.Denot). e.1)) (rw c.seek-place.ensures.at at found))

pub returns-in-None-clause-value : goal.returns-in-None-clause-value
returns-in-None-clause-value g c =
    let at = c.seek-place.result.at in
    let entries = g.L.Leaf.entries c.args.leaf.now in
    let e = lookup_at_place g.met.K.Ord.total g.met.K.Key.exact entries c.args.key.now c.requires.increasing (c.seek-place.ensures.hit.0 (not-false c.seek-place.result.hit c.if-not-place.false)) in
    let found : slice_get entries at ≡ None = sym (ap (λ es. slice_get es at) c.as_slice.ensures) ∙ slice_get_past c.as_slice.result.now at c.in-None.ensures.lookup.3 in
    sym (e ∙ ap (option_map (λ (e : g.row.K.Denot × g.row.V.Denot). e.1)) (rw c.seek-place.ensures.at at found))
