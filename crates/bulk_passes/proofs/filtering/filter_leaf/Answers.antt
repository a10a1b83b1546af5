use Rattle.std.specs.List.{slice_get, filter}
use Rattle.std.specs.Option.{option_map}
use Rattle.std.proofs.Common.{◌≡◌, ◌+◌, Some, [], ◌∷◌, ◌++◌, take, sym, ap, ◌∙◌, arith, append_assoc}
use Rattle.std.proofs.lemmas.List.{take_more}
use Rattle.std.proofs.lemmas.List.Elements.{filter-append}
use Rattle.std.proofs.lemmas.Option.{slice_get_within, get_or_from_slice_get}
use Rattle.aug_monoid.specs.Lending.{entry_of}
use Rattle.bulk_passes.proofs.filtering.filter_leaf.Goals as goal

pub loop-at-preserved : goal.loop-at-preserved
loop-at-preserved g c =
    let p = λ (e : g.row.K.Denot × g.row.V.Denot). g.T.Test.passes c.args.test.now e.0 e.1 in
    let entries = g.L.Leaf.entries c.args.leaf.now in
    let before = c.args.out.now.items in
    let at = c.loop-at._at in
    let entry = entry_of c.in-Some.entry in
    let index = c.loop-at.invariant.2 in
    let found : slice_get entries at ≡ Some entry = sym (rw index at c.walk_next.ensures.value) ∙ ap (option_map entry_of) c.in-Some.is in
    let more : take (at + 1) entries ≡ take at entries ++ entry ∷ [] = take_more entries at entry (slice_get_within entries at entry found) ∙ ap (λ x. take at entries ++ x ∷ []) (get_or_from_slice_get entries at entry entry found) in
    let kept : filter p (take (at + 1) entries) ≡ filter p (take at entries) ++ filter p (entry ∷ []) = ap (filter p) more ∙ filter-append p (take at entries) (entry ∷ []) in
    let moved = rw c.in-Some.is at c.walk_next.ensures.moved in
    (rw (c.key.ensures, c.val.ensures) at c.in_ok-push_passing.ensures.value ∙ ap (λ x. x ++ filter p (entry ∷ [])) c.loop-at.invariant.0 ∙ append_assoc before (filter p (take at entries)) (filter p (entry ∷ [])) ∙ ap (λ x. before ++ x) (sym kept), omega (arith, c.loop-at.invariant.1, c.in_ok-push_passing.ensures.cost), omega (arith, moved, index), c.walk_next.ensures.fits)

pub returns-in_err-push_passing-clause-cost : goal.returns-in_err-push_passing-clause-cost
returns-in_err-push_passing-clause-cost g c = omega (arith, c.loop-at.invariant.1, c.in_err-push_passing.ensures.cost)
