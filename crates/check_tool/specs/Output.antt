-- What the tool check replies.
use Rattle.std.specs.Prelude.{◌≡◌, [], ◌∷◌, ℕ, List, codes}
use Rattle.op_runs.specs.Steps.{step}
use Rattle.run_check.specs.Verdicts.{IsTheVerdict}
use Rattle.run_check.specs.declared.verdict.Verdict.{Verdict}
use Rattle.run_check.specs.declared.verdict.Verdict.TheVariants.{Yes, No}
use Rattle.script.specs.Lines.{line_of}
use Rattle.serve_answers.specs.MapAnswering.{answer_of, last_of}
use Rattle.serve_input.specs.Converting.{records_of}
use Rattle.serve_script.specs.declared.commands.ServedCommand.{ServedCommand}
use Rattle.op_runs.specs.declared.op.Op.{Op}
use Rattle.serve_script.specs.declared.map_words.ServeQuery.{ServeQuery}

abbrev pub ServeCommands : Type 0
ServeCommands = List (ServedCommand Op ServeQuery)

-- the one verdict on a text as one of the commands, run on a map that has no entries at first: yes exactly where the text is one
-- that the tool serve may write for them
abbrev pub IsVerdictOn : ServeCommands → List ℕ → Verdict → Type 0
IsVerdictOn commands text verdict = IsTheVerdict step answer_of last_of [] (records_of commands) text verdict

abbrev pub reply_of : Verdict → List ℕ
reply_of Yes = line_of (codes "yes") []
reply_of (No point) = line_of (codes "no") (point ∷ [])

-- the reply is the line of the verdict
pub record IsCheckOutput (commands : ServeCommands) (text reply : List ℕ) : Type 0 where
  pub verdict : Verdict
  pub is_verdict : IsVerdictOn commands text verdict
  pub is : reply ≡ reply_of verdict
