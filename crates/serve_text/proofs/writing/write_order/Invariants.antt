use Rattle.std.proofs.Common.{◌≡◌, ◌++◌, take}
use Rattle.serve_text.specs.Texts.{order_text}
use Rattle.serve_text.proofs.writing.write_order.Given as goal

abbrev pub invariant-loop-at : goal.invariant-loop-at
invariant-loop-at g l = l.out.items ≡ l.initial.out.items ++ order_text 1 (take l.at l.journal)
