-- The verdict on a text of the tool gserve.
use Rattle.std.specs.Prelude.{[], ℕ, List}
use Rattle.serve_answers.specs.GraphAnswering.{answer_of, last_of}
use Rattle.served_graph.specs.declared.op.GraphOp.{GraphOp}
use Rattle.serve_script.specs.declared.edge_words.EdgeQuery.{EdgeQuery}
use Rattle.run_check.specs.Verdicts.{IsTheVerdict}
use Rattle.run_check.specs.declared.verdict.Verdict.{Verdict}
use Rattle.serve_input.specs.Converting.{records_of}
use Rattle.serve_script.specs.declared.commands.ServedCommand.{ServedCommand}
use Rattle.served_graph.specs.Steps.{step}

-- the one verdict on a text as one of the commands, run on a graph that has no edges at first: yes exactly where the text is one
-- that the tool gserve may write for them
abbrev pub IsGraphVerdictOn : List (ServedCommand GraphOp EdgeQuery) → List ℕ → Verdict → Type 0
IsGraphVerdictOn commands text verdict = IsTheVerdict step answer_of last_of [] (records_of commands) text verdict
