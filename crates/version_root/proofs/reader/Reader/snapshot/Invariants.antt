use Rattle.std.proofs.Common.{◌≤◌}
use Rattle.version_root.specs.Answers.{Stays}
use Rattle.versions.specs.Prefix.{IsPrefix}
use Rattle.version_root.proofs.reader.Reader.snapshot.Given as goal

abbrev pub invariant-loop : goal.invariant-loop
invariant-loop g l = Stays l.initial.self l.self × IsPrefix l.initial.self.seen l.self.seen × (l.initial.self.lost ≤ l.self.lost)
