use Rattle.std.proofs.Common.{◌≡◌, drop}
use Rattle.text_handle.specs.Rows.{are_ends}
use Rattle.text_handle.proofs.put_rows.in_order.Given as goal

abbrev pub invariant-loop-end : goal.invariant-loop-end
invariant-loop-end l = are_ends 0 l.count l.ends ≡ are_ends l.start l.count (drop l.end-index l.ends)
