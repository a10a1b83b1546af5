-- A text of the tool determines the numbers of its reads and the order of its batches.
use Rattle.std.proofs.Common.{◌≡◌, ◌<◌, ◌^◌, ℕ, List, [], length}
use Rattle.serve_answers.specs.GraphAnswering.{answer_of, last_of}
use Rattle.serve_answers.specs.GraphInLine.{answer_in_line}
use Rattle.served_graph.specs.declared.op.GraphOp.{GraphOp}
use Rattle.serve_script.specs.declared.edge_words.EdgeQuery.{EdgeQuery}
use Rattle.serve_input.proofs.Numbered.{input_determined}
use Rattle.serve_script.specs.Served.{IsServeInput}
use Rattle.serve_script.specs.declared.commands.ServedCommand.{ServedCommand}
use Rattle.served_graph.specs.Steps.{step}
use Rattle.serve_tool.specs.GraphOutput.{IsGserveOutput}

pub output_determined : (commands : List (ServedCommand GraphOp EdgeQuery)) → IsServeInput commands → length commands < 2 ^ 64 → (text : List ℕ) (a b : IsGserveOutput commands text)
    → (a.reads ≡ b.reads) × (a.journal ≡ b.journal)
output_determined commands lawful few text a b = input_determined step answer_of last_of [] answer_in_line commands lawful few text a b
