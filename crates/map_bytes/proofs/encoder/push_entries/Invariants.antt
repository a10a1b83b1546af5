use Rattle.std.proofs.Common.{◌≡◌, ◌++◌, ◌⊎◌}
use Rattle.std.specs.Ordering.{nat_cmp}
use Rattle.map_model.specs.Entries.{AllAbove, IsIncreasing}
use Rattle.gap_code.specs.Code.{code, code_after}
use Rattle.gap_code.specs.Leb.{leb}
use Rattle.map_bytes.proofs.encoder.push_entries.Given as goal

abbrev pub invariant-loop-entry : goal.invariant-loop-entry
invariant-loop-entry l = record {
  is : l.bytes.items ++ code_after leb l.last l.entry-iterator ≡ l.fn.bytes.items ++ code leb l.map;
  rises : IsIncreasing nat_cmp l.entry-iterator;
  behind : (l.last ≡ 0) ⊎ AllAbove nat_cmp l.entry-iterator l.last;
}
