use Rattle.std.proofs.Common.{◌≡◌, ◌++◌, ◌+◌, ◌∷◌, decimal, drop}
use Rattle.std.specs.List.{flat_map}
use Rattle.script.specs.Lines.{comma}
use Rattle.seq_tool.specs.Effects.{run_of}
use Rattle.seq_tool.proofs.asking.push_run.Given as goal

abbrev pub invariant-loop : goal.invariant-loop
invariant-loop l = record {
  left : l.cursor ≡ drop (l.from + l.counter) l.seq.items;
  written : l.text.items ≡ l.fn.text.items ++ flat_map (λ n. comma ∷ decimal n) (run_of l.seq.items l.from l.counter);
}
