use Rattle.std.proofs.Common.{◌≡◌, ◌*◌, map}
use Rattle.std.specs.List.{range_with_len}
use Rattle.pam_top.specs.Sample.{number_at, pair_at}
use Rattle.pam_top.proofs.sample.Generator.pairs.Given as goal

abbrev pub invariant-loop : goal.invariant-loop
invariant-loop l = record {
  pairs : l.pairs.items ≡ map (pair_at l.size l.fn.self.number) (range_with_len 0 l.counter);
  number : l.self.number ≡ number_at l.fn.self.number (2 * l.counter);
}
