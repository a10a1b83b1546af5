-- Points that wait to be added after others.
use Rattle.std.proofs.Common.{◌≡◌, ℕ, ◌+◌, ◌<◌, List, [], ◌∷◌, ◌++◌, length, map, get_or, take, sym, ap, ◌∙◌, append_assoc}
use Rattle.std.proofs.lemmas.List.{take_more, map-append}
use Rattle.aug_monoid.specs.declared.pair64.Pair64.{Pair64}
use Rattle.aug_monoid.specs.Exact.{pair64_cmp}
use Rattle.map_model.specs.Operations.{after, put, puts}
use Rattle.map_model.proofs.Operations.{after-append}
use Rattle.range_tree.specs.declared.points.Point.{Point}
use Rattle.range_tree.specs.Points.{entry_of}
use Rattle.points_tool.specs.declared.weighed.Weighed.{Weighed}
use Rattle.points_tool.specs.Effects.{weighed_entries}

-- puts of one list and then of another are puts of both
pub after_waiting : (m : List (Pair64 × ℕ)) (waiting more : List Point) (points : List Weighed) → map entry_of more ≡ map entry_of waiting ++ weighed_entries points → after pair64_cmp m (puts (map entry_of more)) ≡ after pair64_cmp (after pair64_cmp m (puts (map entry_of waiting))) (puts (weighed_entries points))
after_waiting m waiting more points is =
    ap (λ entries. after pair64_cmp m (puts entries)) is
    ∙ ap (after pair64_cmp m) (map-append (λ (e : Pair64 × ℕ). put e.0 e.1) (map entry_of waiting) (weighed_entries points))
    ∙ after-append pair64_cmp (puts (map entry_of waiting)) (puts (weighed_entries points)) m

-- one point more
pub weighed_more : (old new : List Point) (points : List Weighed) (i : ℕ) (p : Weighed) (q : Point) → i < length points → p ≡ get_or points i p → entry_of q ≡ (let e : Pair64 × ℕ = (record { first = p.x; second = p.y }, p.w) in e) → map entry_of new ≡ map entry_of old ++ weighed_entries (take i points) → map entry_of (new ++ q ∷ []) ≡ map entry_of old ++ weighed_entries (take (i + 1) points)
weighed_more old new points i p q h is same so_far =
    map-append entry_of new (q ∷ [])
    ∙ ap (λ xs. xs ++ entry_of q ∷ []) so_far
    ∙ append_assoc (map entry_of old) (weighed_entries (take i points)) (entry_of q ∷ [])
    ∙ ap (λ e. map entry_of old ++ (weighed_entries (take i points) ++ e ∷ [])) same
    ∙ ap (λ xs. map entry_of old ++ xs) (sym (ap weighed_entries (take_more points i p h ∙ ap (λ x. take i points ++ x ∷ []) (sym is)) ∙ map-append (λ (w : Weighed). let e : Pair64 × ℕ = (record { first = w.x; second = w.y }, w.w) in e) (take i points) (p ∷ [])))
