use Rattle.std.proofs.Common.{arith, inl, inr}
use Rattle.std.proofs.lemmas.Result.{err_from_is_err_and}
use Rattle.entry_bytes.proofs.SoFar.{order_fault, val_fault, entry_read}
use Rattle.entry_bytes.proofs.read.read_entry.Goals as goal

pub returns-in_err-gap : goal.returns-in_err-gap
returns-in_err-gap c =
    let p = err_from_is_err_and c.from_residual.result c.from_residual.ensures.1 in
    rw (p.1, p.2) (inl c.in_err-gap.ensures)

pub returns-then-step-least : goal.returns-then-step-least
returns-then-step-least c = order_fault _ _ _ _ _ _ c.in_ok-gap.ensures (inl (omega arith))

pub returns-then-step-most : goal.returns-then-step-most
returns-then-step-most c = order_fault _ _ _ _ _ _ c.in_ok-gap.ensures (inr (omega arith))

pub returns-in_err-val : goal.returns-in_err-val
returns-in_err-val c =
    let p = err_from_is_err_and c.from_residual-in_err-val.result c.from_residual-in_err-val.ensures.1 in
    rw (p.1, p.2) (val_fault _ _ _ _ _ _ _ c.in_ok-gap.ensures (omega arith) (omega arith) c.in_err-val.ensures)

pub returns : goal.returns
returns c = entry_read _ _ _ _ _ _ _ _ c.in_ok-gap.ensures c.in_ok-val.ensures (omega arith) (omega arith)
