use Rattle.std.proofs.Common.{◌≡◌, ◌++◌, drop, take}
use Rattle.interval_handle.specs.Ends.{lefts_of, rights_of}
use Rattle.interval_handle.proofs.arrays.write_ends.Given as goal

abbrev pub invariant-loop-at : goal.invariant-loop-at
invariant-loop-at l = record {
  lefts : l.lefts ≡ lefts_of (take l.at l.intervals) ++ drop l.at l.initial.lefts;
  rights : l.rights ≡ rights_of (take l.at l.intervals) ++ drop l.at l.initial.rights;
}
