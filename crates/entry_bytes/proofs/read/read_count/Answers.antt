use Rattle.std.proofs.Common.{arith}
use Rattle.std.proofs.lemmas.Result.{err_from_is_err_and}
use Rattle.entry_bytes.proofs.SoFar.{count_read, count_fault, count_crowded}
use Rattle.entry_bytes.proofs.read.read_count.Goals as goal

pub returns-in_err-count : goal.returns-in_err-count
returns-in_err-count c =
    let p = err_from_is_err_and c.from_residual.result c.from_residual.ensures.1 in
    rw (p.1, p.2) (count_fault _ _ _ c.requires.header c.in_err-count.ensures)

pub returns-then-wanted-most : goal.returns-then-wanted-most
returns-then-wanted-most c = count_crowded _ _ _ _ c.requires.header c.in_ok-count.ensures (omega arith)

pub returns : goal.returns
returns c = (count_read _ _ _ _ c.requires.header c.in_ok-count.ensures (omega arith), c.in_ok-count.ensures.within)
