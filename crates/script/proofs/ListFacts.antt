-- The numbers or pairs so far, and those of the fields that are left.
use Rattle.std.proofs.Common.{◌≡◌, ◌∙◌, ◌+◌, ◌<◌, ◌≤◌, ◌++◌, ℕ, suc, List, [], ◌∷◌, Ok, Err, length, drop, get_or, refl, ap, arith, add-one, drop-cons, append-nil}
use Rattle.std.proofs.lemmas.List.{drop_all}
use Rattle.aug_monoid.specs.declared.pair64.Pair64.{Pair64}
use Rattle.script.specs.Fields.{number_in, numbers_of, pair_of, pairs_of}
use Rattle.script.specs.Records.{Fields}
use Rattle.script.specs.declared.fault.Code.{Code}
use Rattle.script.proofs.CommandFacts.{after, with_front}

pub numbers-more : (front : List ℕ) (r : Fields) (at n : ℕ) → at < length r → number_in r at ≡ Ok n
    → with_front front (numbers_of (drop at r)) ≡ with_front (front ++ n ∷ []) (numbers_of (drop (at + 1) r))
unfolding numbers_of
numbers-more front r at n h e = rw (add-one, drop-cons r at [] h) (rw e (after front n (numbers_of (drop (suc at) r))))

pub numbers-bad : (front : List ℕ) (r : Fields) (at : ℕ) (c : Code) → at < length r → number_in r at ≡ Err c
    → with_front front (numbers_of (drop at r)) ≡ Err c
unfolding numbers_of
numbers-bad front r at c h e = rw (drop-cons r at [] h) (rw e refl)

pub numbers-end : (front : List ℕ) (r : Fields) (at : ℕ) → length r ≤ at → with_front front (numbers_of (drop at r)) ≡ Ok front
unfolding numbers_of
numbers-end front r at h = rw (drop_all at r h) (ap Ok (append-nil front))

pub two_fields : (r : Fields) (at : ℕ) → at + 1 < length r → drop at r ≡ get_or r at [] ∷ get_or r (at + 1) [] ∷ drop (at + 2) r
two_fields r at h =
    let one : at + 1 ≡ suc at = omega arith in
    let two : at + 2 ≡ suc (suc at) = omega arith in
    rw (one, two) (drop-cons r at [] (omega arith) ∙ ap (λ rest. get_or r at [] ∷ rest) (drop-cons r (suc at) [] (omega arith)))

pub pairs-more : (front : List Pair64) (r : Fields) (at : ℕ) (p : Pair64) → at + 1 < length r → pair_of (get_or r at []) (get_or r (at + 1) []) ≡ Ok p
    → with_front front (pairs_of (drop at r)) ≡ with_front (front ++ p ∷ []) (pairs_of (drop (at + 2) r))
unfolding pairs_of
pairs-more front r at p h e = ap (λ fields. with_front front (pairs_of fields)) (two_fields r at h) ∙ rw e (after front p (pairs_of (drop (at + 2) r)))

pub pairs-bad : (front : List Pair64) (r : Fields) (at : ℕ) (c : Code) → at + 1 < length r → pair_of (get_or r at []) (get_or r (at + 1) []) ≡ Err c
    → with_front front (pairs_of (drop at r)) ≡ Err c
unfolding pairs_of
pairs-bad front r at c h e = ap (λ fields. with_front front (pairs_of fields)) (two_fields r at h) ∙ rw e refl

pub pairs-end : (front : List Pair64) (r : Fields) (at : ℕ) → length r ≤ at → with_front front (pairs_of (drop at r)) ≡ Ok front
unfolding pairs_of
pairs-end front r at h = rw (drop_all at r h) (ap Ok (append-nil front))
