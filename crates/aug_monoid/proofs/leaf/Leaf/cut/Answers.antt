use Rattle.std.proofs.Common.{◌≡◌, ◌+◌, ◌∷◌, ◌++◌, take, drop, Some, None, sym, ap, ◌∙◌, arith, take-append-drop}
use Rattle.std.specs.List.{slice_get}
use Rattle.std.specs.Option.{option_map}
use Rattle.std.proofs.lemmas.List.{length-take-le, drop_more}
use Rattle.std.proofs.lemmas.Option.{slice_get_within, get_or_from_slice_get}
use Rattle.map_model.proofs.Places.{entry_there}
use Rattle.aug_monoid.specs.Lending.{entry_of}
use Rattle.aug_monoid.proofs.leaf.Leaf.cut.Goals as goal

pub unreachable-requires : goal.unreachable-requires
unreachable-requires g c =
    let entries = g.Self.Leaf.entries c.args.self in
    let none : slice_get entries c.args.at ≡ None = sym c.get_at.ensures ∙ ap (option_map entry_of) c.in_default.is in
    entry_there entries c.args.at c.requires none

pub returns-clause-whole : goal.returns-clause-whole
returns-clause-whole g c =
    let entries = g.Self.Leaf.entries c.args.self in
    let at = c.args.at in
    let middle = entry_of c.in-Some.middle in
    let found : slice_get entries at ≡ Some middle = sym c.get_at.ensures ∙ ap (option_map entry_of) c.in-Some.is in
    let behind : drop at entries ≡ middle ∷ drop (at + 1) entries = drop_more entries at middle (slice_get_within entries at middle found) ∙ ap (λ x. x ∷ drop (at + 1) entries) (get_or_from_slice_get entries at middle middle found) in
    rw (c.in_ok-entry.ensures.value, c.in_ok-front.ensures, c.in_ok-back.ensures) (sym (take-append-drop at entries) ∙ ap (λ x. take at entries ++ x) behind)

pub returns-clause-place : goal.returns-clause-place
returns-clause-place g c =
    rw c.in_ok-front.ensures (length-take-le c.args.at (g.Self.Leaf.entries c.args.self) (omega (arith, c.requires)))
