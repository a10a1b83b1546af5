use Rattle.std.specs.List.{slice_get}
use Rattle.std.specs.Option.{option_map}
use Rattle.std.proofs.Common.{◌≡◌, ◌+◌, Some, [], ◌∷◌, ◌++◌, map, take, sym, ap, ap₂, ◌∙◌, arith}
use Rattle.std.proofs.lemmas.List.{map-append, take_more}
use Rattle.std.proofs.lemmas.Option.{slice_get_within, get_or_from_slice_get}
use Rattle.aug_monoid.specs.Lending.{entry_of}
use Rattle.range_tree.specs.Listings.{swapped_entry}
use Rattle.range_tree.specs.Places.{swapped}
use Rattle.range_tree.proofs.rows.swapped_entries.Goals as goal

pub loop-at-preserved : goal.loop-at-preserved
loop-at-preserved g c =
    let entries = g.L.Leaf.entries c.args.leaf.now in
    let at = c.loop-at._at in
    let entry = entry_of c.in-Some.entry in
    let index = c.loop-at.invariant.1 in
    let found : slice_get entries at ≡ Some entry = sym (rw index at c.walk_next.ensures.value) ∙ ap (option_map entry_of) c.in-Some.is in
    let more : take (at + 1) entries ≡ take at entries ++ entry ∷ [] = take_more entries at entry (slice_get_within entries at entry found) ∙ ap (λ x. take at entries ++ x ∷ []) (get_or_from_slice_get entries at entry entry found) in
    let moved = rw c.in-Some.is at c.walk_next.ensures.moved in
    let pushed : c.push.new.self.items ≡ c.loop-at.list.items ++ swapped_entry entry ∷ [] = c.in_ok-push.ensures.items ∙ ap₂ (λ place weight. c.loop-at.list.items ++ (place, weight) ∷ []) (c.swapped.ensures ∙ ap swapped c.key.ensures) c.val.ensures in
    let grown : map swapped_entry (take (at + 1) entries) ≡ map swapped_entry (take at entries) ++ swapped_entry entry ∷ [] = ap (map swapped_entry) more ∙ map-append swapped_entry (take at entries) (entry ∷ []) in
    (pushed ∙ ap (λ x. x ++ swapped_entry entry ∷ []) c.loop-at.invariant.0 ∙ sym grown, omega (arith, moved, index), c.walk_next.ensures.fits)
