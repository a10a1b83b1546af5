-- The points so far, and those of the fields that are left.
use Rattle.std.proofs.Common.{◌≡◌, ◌∙◌, ◌+◌, ◌<◌, ◌≤◌, ◌++◌, ℕ, suc, List, [], ◌∷◌, Ok, Err, length, drop, get_or, refl, ap, arith, drop-cons, append-nil}
use Rattle.std.proofs.lemmas.List.{drop_all}
use Rattle.points_tool.specs.Weighed.{point_of, points_of}
use Rattle.points_tool.specs.declared.weighed.Weighed.{Weighed}
use Rattle.script.specs.Records.{Fields}
use Rattle.script.specs.declared.fault.Code.{Code}
use Rattle.script.proofs.CommandFacts.{after, with_front}
use Rattle.script.proofs.ListFacts.{two_fields}

three_fields : (r : Fields) (at : ℕ) → at + 2 < length r → drop at r ≡ get_or r at [] ∷ get_or r (at + 1) [] ∷ get_or r (at + 2) [] ∷ drop (at + 3) r
three_fields r at h =
    let three : at + 3 ≡ suc (at + 2) = omega arith in
    two_fields r at (omega arith) ∙ ap (λ rest. get_or r at [] ∷ get_or r (at + 1) [] ∷ rest) (rw three (drop-cons r (at + 2) [] h))

pub points-more : (front : List Weighed) (r : Fields) (at : ℕ) (p : Weighed) → at + 2 < length r → point_of (get_or r at []) (get_or r (at + 1) []) (get_or r (at + 2) []) ≡ Ok p
    → with_front front (points_of (drop at r)) ≡ with_front (front ++ p ∷ []) (points_of (drop (at + 3) r))
unfolding points_of
points-more front r at p h e = ap (λ fields. with_front front (points_of fields)) (three_fields r at h) ∙ rw e (after front p (points_of (drop (at + 3) r)))

pub points-bad : (front : List Weighed) (r : Fields) (at : ℕ) (c : Code) → at + 2 < length r → point_of (get_or r at []) (get_or r (at + 1) []) (get_or r (at + 2) []) ≡ Err c
    → with_front front (points_of (drop at r)) ≡ Err c
unfolding points_of
points-bad front r at c h e = ap (λ fields. with_front front (points_of fields)) (three_fields r at h) ∙ rw e refl

pub points-end : (front : List Weighed) (r : Fields) (at : ℕ) → length r ≤ at → with_front front (points_of (drop at r)) ≡ Ok front
unfolding points_of
points-end front r at h = rw (drop_all at r h) (ap Ok (append-nil front))
