use Rattle.std.proofs.Common.{◌≡◌, ◌++◌, ◌∷◌, decimal, take}
use Rattle.std.specs.List.{flat_map}
use Rattle.script.specs.Lines.{comma}
use Rattle.script.proofs.lines.reply.Given as goal

abbrev pub invariant-loop-number : goal.invariant-loop-number
invariant-loop-number l = l.out.items ≡ l.fn.out.items ++ (l.word ++ flat_map (λ n. comma ∷ decimal n) (take l.number-index l.numbers))
