use Rattle.std.proofs.Common.{arith, inr}
use Rattle.std.proofs.lemmas.Result.{err_from_is_err_and}
use Rattle.entry_bytes.proofs.SoFar.{so_far_first, so_far_next, so_far_all, so_far_fault}
use Rattle.entry_bytes.proofs.read.read_all.Goals as goal

pub loop-index-init : goal.loop-index-init
loop-index-init c = so_far_first _ _ _ _ c.requires.begun c.requires.within c.in_ok-entries.ensures.items

pub loop-index-preserved : goal.loop-index-preserved
loop-index-preserved c = so_far_next _ _ _ _ _ _ _ _ _ _ _ c.loop-index.invariant (omega arith) c.in_ok-read.ensures c.in_ok-push.ensures.items

pub returns-in_err-read : goal.returns-in_err-read
returns-in_err-read c =
    let p = err_from_is_err_and c.from_residual-in_err-read.result c.from_residual-in_err-read.ensures.1 in
    rw (p.1, p.2) (inr (so_far_fault _ _ _ _ _ _ _ _ c.loop-index.invariant (omega arith) c.in_err-read.ensures))

pub returns : goal.returns
returns c = so_far_all _ _ _ _ _ _ _ c.loop-index.invariant (omega arith)
