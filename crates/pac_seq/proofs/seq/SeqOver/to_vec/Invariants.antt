use Rattle.std.proofs.Common.{◌≡◌, ◌++◌}
use Rattle.pac_seq.proofs.seq.SeqOver.to_vec.Given as goal

abbrev pub invariant-loop-item : goal.invariant-loop-item
invariant-loop-item g l = l.self.items ≡ l.list.items ++ l.item-iterator
