use Rattle.std.proofs.Common.{inl, inr, sym, ◌∙◌}
use Rattle.std.proofs.lemmas.Result.{err_from_is_err_and}
use Rattle.entry_bytes.proofs.Begun.{end_fault, header_inside, all_small, all_encoding}
use Rattle.entry_bytes.proofs.Encodings.{one_map, memory_alone, reads_fault}
use Rattle.entry_bytes.proofs.read.read_entries.Goals as goal

pub returns-in_err-read_header-clause-fault : goal.returns-in_err-read_header-clause-fault
returns-in_err-read_header-clause-fault c =
    let p = err_from_is_err_and c.from_residual.result c.from_residual.ensures.1 in
    rw (p.1, p.2) (inr (inl c.in_err-read_header.ensures))

pub returns-in_err-read_header-clause-accepts : goal.returns-in_err-read_header-clause-accepts
returns-in_err-read_header-clause-accepts c =
    let p = err_from_is_err_and c.from_residual.result c.from_residual.ensures.1 in
    rw (p.1, p.2) (memory_alone _ _ (inr (inl c.in_err-read_header.ensures)))

pub returns-in_err-count-clause-fault : goal.returns-in_err-count-clause-fault
returns-in_err-count-clause-fault c =
    let p = err_from_is_err_and c.from_residual-in_err-count.result c.from_residual-in_err-count.ensures.1 in
    rw (p.1, p.2) (inr (inr (inl c.in_err-count.ensures)))

pub returns-in_err-count-clause-accepts : goal.returns-in_err-count-clause-accepts
returns-in_err-count-clause-accepts c =
    let p = err_from_is_err_and c.from_residual-in_err-count.result c.from_residual-in_err-count.ensures.1 in
    rw (p.1, p.2) (memory_alone _ _ (inr (inr (inl c.in_err-count.ensures))))

pub returns-in_err-reads-clause-fault : goal.returns-in_err-reads-clause-fault
returns-in_err-reads-clause-fault c =
    let p = err_from_is_err_and c.from_residual-in_err-reads.result c.from_residual-in_err-reads.ensures.1 in
    rw (p.1, p.2) (reads_fault _ _ c.in_err-reads.ensures)

pub returns-in_err-reads-clause-accepts : goal.returns-in_err-reads-clause-accepts
returns-in_err-reads-clause-accepts c =
    let p = err_from_is_err_and c.from_residual-in_err-reads.result c.from_residual-in_err-reads.ensures.1 in
    rw (p.1, p.2) (memory_alone _ _ (reads_fault _ _ c.in_err-reads.ensures))

pub returns-in_err-read_end-clause-fault : goal.returns-in_err-read_end-clause-fault
returns-in_err-read_end-clause-fault c =
    let p = err_from_is_err_and c.from_residual-in_err-read_end.result c.from_residual-in_err-read_end.ensures.1 in
    rw (p.1, p.2) (inr (inr (inr (inr (end_fault _ _ _ _ _ c.in_ok-reads.ensures c.in_err-read_end.ensures)))))

pub returns-in_err-read_end-clause-accepts : goal.returns-in_err-read_end-clause-accepts
returns-in_err-read_end-clause-accepts c =
    let p = err_from_is_err_and c.from_residual-in_err-read_end.result c.from_residual-in_err-read_end.ensures.1 in
    rw (p.1, p.2) (memory_alone _ _ (inr (inr (inr (inr (end_fault _ _ _ _ _ c.in_ok-reads.ensures c.in_err-read_end.ensures))))))

pub returns-clause-lawful : goal.returns-clause-lawful
returns-clause-lawful c = c.in_ok-reads.ensures.begun.lawful

pub returns-clause-encoding : goal.returns-clause-encoding
returns-clause-encoding c = all_encoding _ _ _ _ c.in_ok-reads.ensures c.in_ok-read_end.ensures

pub returns-clause-small : goal.returns-clause-small
returns-clause-small c = all_small _ _ _ _ c.in_ok-reads.ensures

pub returns-clause-accepts : goal.returns-clause-accepts
returns-clause-accepts c = λ m map is. one_map _ m c.in_ok-reads.ensures.begun.lawful.increasing map.increasing (sym (all_encoding _ _ _ _ c.in_ok-reads.ensures c.in_ok-read_end.ensures) ∙ is)

pub read_count-requires-clause-within : goal.read_count-requires-clause-within
read_count-requires-clause-within c = header_inside _ c.in_ok-read_header.ensures
