-- The texts that an input of the tool serve may have.
use Rattle.std.specs.Prelude.{ℕ, List, []}
use Rattle.op_runs.specs.Steps.{step}
use Rattle.serve_script.specs.declared.commands.ServedCommand.{ServedCommand}
use Rattle.op_runs.specs.declared.op.Op.{Op}
use Rattle.serve_script.specs.declared.map_words.ServeQuery.{ServeQuery}
use Rattle.serve_answers.specs.MapAnswering.{answer_of, last_of}
use Rattle.serve_input.specs.Converting.{records_of}
use Rattle.serve_text.specs.Texts.{IsServeText}

-- the text is that of a lawful history of the input's batches and reads, on a map that has no entries at first
abbrev pub IsServeOutput : List (ServedCommand Op ServeQuery) → List ℕ → Type 0
IsServeOutput commands text = IsServeText step answer_of last_of [] (records_of commands) text
