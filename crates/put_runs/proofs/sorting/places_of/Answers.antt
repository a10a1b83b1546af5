use Rattle.std.proofs.Common.{ℕ, ◌∙◌, ◌+◌, [], ◌∷◌, ◌++◌, ap, append-nil, append_assoc, drop, get_or, sym}
use Rattle.std.proofs.lemmas.List.{drop_all, drop_more}
use Rattle.put_runs.specs.Places.{placed}
use Rattle.put_runs.proofs.sorting.places_of.Goals as goal

pub loop-place-preserved : goal.loop-place-preserved
loop-place-preserved c =
    let entries = c.args.entries.now in
    let place = c.loop-place.place in
    let places = c.loop-place.places.items in
    let none : ℕ × ℕ = (0, 0) in
    let rest = placed (place + 1) (drop (place + 1) entries) in
    c.loop-place.invariant
    ∙ ap (λ left. places ++ placed place left) (drop_more entries place none c.loop-place-test.true)
    ∙ sym (append_assoc places (((get_or entries place none).0, place) ∷ []) rest)
    ∙ ap (λ made. made ++ rest) (sym c.in_ok-push.ensures.items)

pub returns : goal.returns
returns c =
    sym (c.loop-place.invariant
    ∙ ap (λ left. c.loop-place.places.items ++ placed c.loop-place.place left) (drop_all c.loop-place.place c.args.entries.now c.loop-place-test.false)
    ∙ append-nil c.loop-place.places.items)
