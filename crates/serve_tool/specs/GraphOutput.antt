-- The texts that an input of the tool gserve may have.
use Rattle.std.specs.Prelude.{ℕ, List, []}
use Rattle.serve_answers.specs.GraphAnswering.{answer_of, last_of}
use Rattle.served_graph.specs.declared.op.GraphOp.{GraphOp}
use Rattle.serve_script.specs.declared.edge_words.EdgeQuery.{EdgeQuery}
use Rattle.serve_input.specs.Converting.{records_of}
use Rattle.serve_script.specs.declared.commands.ServedCommand.{ServedCommand}
use Rattle.serve_text.specs.Texts.{IsServeText}
use Rattle.served_graph.specs.Steps.{step}

-- the text is that of a lawful history of the input's batches and reads, on a graph that has no edges at first
abbrev pub IsGserveOutput : List (ServedCommand GraphOp EdgeQuery) → List ℕ → Type 0
IsGserveOutput commands text = IsServeText step answer_of last_of [] (records_of commands) text
