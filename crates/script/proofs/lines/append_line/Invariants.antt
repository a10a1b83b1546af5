use Rattle.std.proofs.Common.{◌≡◌, ◌≤◌, ◌++◌, ◌∷◌, take, decimal}
use Rattle.std.specs.List.{flat_map}
use Rattle.std.specs.Prelude.{vec_capacity}
use Rattle.script.specs.Lines.{comma}
use Rattle.script.proofs.lines.append_line.Given as goal

abbrev pub invariant-loop-number : goal.invariant-loop-number
invariant-loop-number l =
    (l.out.items ≡ l.fn.out.items ++ (l.word ++ flat_map (λ n. comma ∷ decimal n) (take l.number-index l.numbers))) × (vec_capacity l.fn.out ≤ vec_capacity l.out)
