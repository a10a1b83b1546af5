-- A text of the tool determines the numbers of its reads and the order of its batches.
use Rattle.std.proofs.Common.{◌≡◌, ◌<◌, ◌^◌, ℕ, List, [], length}
use Rattle.op_runs.specs.Steps.{step}
use Rattle.serve_script.specs.Served.{IsServeInput}
use Rattle.serve_script.specs.declared.commands.ServedCommand.{ServedCommand}
use Rattle.op_runs.specs.declared.op.Op.{Op}
use Rattle.serve_script.specs.declared.map_words.ServeQuery.{ServeQuery}
use Rattle.serve_answers.specs.MapAnswering.{answer_of, last_of}
use Rattle.serve_answers.specs.MapInLine.{answer_in_line}
use Rattle.serve_input.proofs.Numbered.{input_determined}
use Rattle.serve_tool.specs.Output.{IsServeOutput}

pub output_determined : (commands : List (ServedCommand Op ServeQuery)) → IsServeInput commands → length commands < 2 ^ 64 → (text : List ℕ) (a b : IsServeOutput commands text)
    → (a.reads ≡ b.reads) × (a.journal ≡ b.journal)
output_determined commands lawful few text a b = input_determined step answer_of last_of [] answer_in_line commands lawful few text a b
