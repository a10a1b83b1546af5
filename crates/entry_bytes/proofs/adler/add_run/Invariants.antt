use Rattle.std.proofs.Common.{◌≡◌, ◌+◌, ◌*◌, ◌≤◌, take, drop, sum}
use Rattle.entry_bytes.specs.Adler.{sum_of_sums}
use Rattle.entry_bytes.proofs.adler.add_run.Given as goal

abbrev pub invariant-loop-byte : goal.invariant-loop-byte
invariant-loop-byte l = record {
  low_is : l.low ≡ l.fn.sums.low + sum (take l.byte-index l.bytes);
  high_is : l.high + sum_of_sums l.low (drop l.byte-index l.bytes) ≡ l.fn.sums.high + sum_of_sums l.fn.sums.low l.bytes;
  low_small : l.low ≤ 65520 + 255 * l.byte-index;
  high_small : l.high ≤ 65520 + 33554432 * l.byte-index;
}
