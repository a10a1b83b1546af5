-- A text determines its history.
use Rattle.std.proofs.Common.{◌≡◌, ℕ, List}
use Rattle.op_runs.specs.Steps.{step}
use Rattle.op_runs.specs.declared.op.Op.{Op}
use Rattle.serve_script.specs.declared.map_words.ServeQuery.{ServeQuery}
use Rattle.serve_answers.specs.MapAnswering.{answer_of, last_of}
use Rattle.serve_answers.specs.MapInLine.{answer_in_line}
use Rattle.serve_text.specs.Determined.{AreNumbered}
use Rattle.serve_text.specs.Texts.{IsServeText}
use Rattle.serve_text.specs.declared.record.Record.{Record}
use Rattle.serve_text.proofs.Determined.{determined}

-- two histories of the same numbered records of a served map with one text are the same
pub served_determined : (base : List (ℕ × ℕ)) (records : List (Record Op ServeQuery)) → AreNumbered records
    → (text : List ℕ) (a b : IsServeText step answer_of last_of base records text) → (a.reads ≡ b.reads) × (a.journal ≡ b.journal)
served_determined base = determined step answer_of last_of base answer_in_line
