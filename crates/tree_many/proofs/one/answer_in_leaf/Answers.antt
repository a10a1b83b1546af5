use Rattle.std.proofs.Common.{◌≡◌, Some, None, ◌∙◌, sym, ap}
use Rattle.std.specs.List.{slice_get}
use Rattle.std.specs.Option.{option_map}
use Rattle.std.proofs.lemmas.Result.{IfOk-weaker}
use Rattle.map_model.specs.Entries.{lookup}
use Rattle.map_model.proofs.Cuts.{lookup_at_place}
use Rattle.aug_monoid.specs.Lending.{entry_of}
use Rattle.tree_many.proofs.Nodes.{there}
use Rattle.tree_many.proofs.one.answer_in_leaf.Goals as goal

pub returns-in-Some : goal.returns-in-Some
returns-in-Some g c =
    let entries = g.L.Leaf.entries c.args.leaf.now in
    let e = lookup_at_place g.met.K.Ord.total g.met.K.Key.exact entries c.args.key.now c.requires (c.seek-place.ensures.hit.0 (there c.seek-place.result.hit c.if-not-place.false)) in
    let found : slice_get entries c.seek-place.result.at ≡ Some (entry_of c.in-Some.entry) = sym c.get_at.ensures ∙ ap (option_map entry_of) c.in-Some.is in
    let looked : lookup g.K.Ord.cmp entries c.args.key.now ≡ Some (entry_of c.in-Some.entry).1 = e ∙ ap (option_map (λ (e : g.row.K.Denot × g.row.V.Denot). e.1)) (rw c.seek-place.ensures.at at found) in
    IfOk-weaker c.found.result _ _ (λ x h. h ∙ ap (λ v. g.W.Answer.answer (Some v)) c.val.ensures ∙ sym (ap g.W.Answer.answer looked)) c.found.ensures

pub returns-in-None : goal.returns-in-None
returns-in-None g c =
    let entries = g.L.Leaf.entries c.args.leaf.now in
    let e = lookup_at_place g.met.K.Ord.total g.met.K.Key.exact entries c.args.key.now c.requires (c.seek-place.ensures.hit.0 (there c.seek-place.result.hit c.if-not-place.false)) in
    let found : slice_get entries c.seek-place.result.at ≡ None = sym c.get_at.ensures ∙ ap (option_map entry_of) c.in-None.is in
    let looked : lookup g.K.Ord.cmp entries c.args.key.now ≡ None = e ∙ ap (option_map (λ (e : g.row.K.Denot × g.row.V.Denot). e.1)) (rw c.seek-place.ensures.at at found) in
    c.missing-in-None.ensures ∙ sym (ap g.W.Answer.answer looked)
