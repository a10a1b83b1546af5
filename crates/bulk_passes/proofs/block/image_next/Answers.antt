use Rattle.std.proofs.Common.{◌≡◌, ◌+◌, ◌∷◌, drop, Some, sym, ap, ◌∙◌}
use Rattle.std.specs.List.{slice_get}
use Rattle.std.specs.Option.{option_map}
use Rattle.std.proofs.lemmas.List.{drop_more}
use Rattle.std.proofs.lemmas.Option.{slice_get_within, get_or_from_slice_get}
use Rattle.map_model.proofs.Folds.{fold-one}
use Rattle.aug_monoid.specs.Lending.{entry_of}
use Rattle.bulk_passes.proofs.block.image_next.Goals as goal

pub returns-clause-value : goal.returns-clause-value
returns-clause-value g t =
    let laws = g.met.W.Reduce in
    let how = t.args.how.now in
    let entries = g.L.Leaf.entries t.args.leaf.now in
    let at = t.args.walk.now.index in
    let entry = entry_of t.in-Some.entry in
    let found : slice_get entries at ≡ Some entry = sym t.walk_next.ensures.value ∙ ap (option_map entry_of) t.in-Some.is in
    let here : drop at entries ≡ entry ∷ drop (at + 1) entries = drop_more entries at entry (slice_get_within entries at entry found) ∙ ap (λ x. x ∷ drop (at + 1) entries) (get_or_from_slice_get entries at entry entry found) in
    rw (here, fold-one (laws.monoid how) (laws.image_fits how) entry.0 entry.1) (rw (t.key.ensures, t.val.ensures) at t.of.ensures)
