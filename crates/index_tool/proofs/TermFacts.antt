-- The terms so far, and those of the fields that are left.
use Rattle.std.proofs.Common.{◌≡◌, ◌∙◌, ◌+◌, ◌<◌, ◌≤◌, ◌++◌, ℕ, suc, List, [], ◌∷◌, Result, Ok, Err, length, drop, refl, ap, add-one, drop-cons, append-nil}
use Rattle.std.proofs.lemmas.List.{drop_all}
use Rattle.index_tool.specs.Terms.{term_in, terms_of}
use Rattle.script.specs.Records.{Fields}
use Rattle.script.specs.Results.{CodeFaults}
use Rattle.script.specs.declared.fault.Code.{Code}
use Rattle.script.specs.declared.fault.RecordFault.{RecordFault}
use Rattle.script.specs.declared.fault.RecordFault.TheVariants as record_fault
use Rattle.script.proofs.CommandFacts.{after, with_front}

pub terms-more : (front : List (List ℕ)) (r : Fields) (at : ℕ) (t : List ℕ) → at < length r → term_in r at ≡ Ok t
    → with_front front (terms_of (drop at r)) ≡ with_front (front ++ t ∷ []) (terms_of (drop (at + 1) r))
unfolding terms_of
terms-more front r at t h e = rw (add-one, drop-cons r at [] h) (rw e (after front t (terms_of (drop (suc at) r))))

terms-bad : (front : List (List ℕ)) (r : Fields) (at : ℕ) (c : Code) → at < length r → term_in r at ≡ Err c
    → with_front front (terms_of (drop at r)) ≡ Err c
unfolding terms_of
terms-bad front r at c h e = rw (drop-cons r at [] h) (rw e refl)

-- a fault of the next term is one of the whole
pub terms-fault : (front : List (List ℕ)) (r : Fields) (at : ℕ) (e : RecordFault) (whole : Result (List (List ℕ)) Code) → at < length r → CodeFaults e (term_in r at)
    → whole ≡ with_front front (terms_of (drop at r)) → CodeFaults e whole
terms-fault front r at (record_fault.Bad c) whole h faults is = is ∙ terms-bad front r at c h faults
terms-fault front r at record_fault.NoMemory whole h faults is = tt

pub terms-end : (front : List (List ℕ)) (r : Fields) (at : ℕ) → length r ≤ at → with_front front (terms_of (drop at r)) ≡ Ok front
unfolding terms_of
terms-end front r at h = rw (drop_all at r h) (ap Ok (append-nil front))
