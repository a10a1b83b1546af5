-- The commands so far, and those of the records that are left.
use Rattle.std.proofs.Common.{◌≡◌, ◌∙◌, ◌+◌, ℕ, List, [], ◌∷◌, ◌++◌, Result, Ok, Err, refl, sym, ap, append_assoc, append-nil}
use Rattle.script.specs.Records.{Fields}
use Rattle.script.specs.InOrder.{commands_from}
use Rattle.script.specs.Results.{◌>>=◌, Faults, at_place}
use Rattle.script.specs.declared.fault.ScriptFault.{ScriptFault}
use Rattle.script.specs.declared.fault.ScriptFault.TheVariants as fault
use Rattle.script.specs.declared.fault.BadRecord.{BadRecord}
use Rattle.script.specs.declared.fault.Code.{Code}

-- reading that goes on after these commands
abbrev pub with_front : {C E : Type 0} → List C → Result (List C) E → Result (List C) E
with_front front (Ok rest) = Ok (front ++ rest)
with_front front (Err bad) = Err bad

pub front-none : {C E : Type 0} (read : Result (List C) E) → read ≡ with_front [] read
front-none (Ok rest) = refl
front-none (Err bad) = refl

pub front-end : {C : Type 0} (reading : ℕ → Fields → Result C Code) (place : ℕ) (front : List C) → with_front front (commands_from reading place []) ≡ Ok front
unfolding commands_from
front-end reading place front = ap Ok (append-nil front)

pub after : {C E : Type 0} (front : List C) (c : C) (read : Result (List C) E) → with_front front (read >>= (λ cs. Ok (c ∷ cs))) ≡ with_front (front ++ c ∷ []) read
after front c (Ok rest) = ap Ok (sym (append_assoc front (c ∷ []) rest))
after front c (Err bad) = refl

pub front-more : {C : Type 0} (reading : ℕ → Fields → Result C Code) (place : ℕ) (front : List C) (r : Fields) (rs : List Fields) (c : C) → at_place place (reading place r) ≡ Ok c
    → with_front front (commands_from reading place (r ∷ rs)) ≡ with_front (front ++ c ∷ []) (commands_from reading (place + 1) rs)
unfolding commands_from
front-more reading place front r rs c e = rw e (after front c (commands_from reading (place + 1) rs))

pub front-bad : {C : Type 0} (reading : ℕ → Fields → Result C Code) (place : ℕ) (front : List C) (r : Fields) (rs : List Fields) (bad : BadRecord) → at_place place (reading place r) ≡ Err bad
    → with_front front (commands_from reading place (r ∷ rs)) ≡ Err bad
unfolding commands_from
front-bad reading place front r rs bad e = rw e refl

-- a fault of the next record is one of the whole
pub front-fault : {C : Type 0} (reading : ℕ → Fields → Result C Code) (place : ℕ) (front : List C) (r : Fields) (rs : List Fields) (e : ScriptFault) (whole : Result (List C) BadRecord)
    → Faults e (at_place place (reading place r)) → whole ≡ with_front front (commands_from reading place (r ∷ rs)) → Faults e whole
front-fault reading place front r rs fault.NoMemory whole read is = tt
front-fault reading place front r rs (fault.Bad bad) whole read is = is ∙ front-bad reading place front r rs bad read
