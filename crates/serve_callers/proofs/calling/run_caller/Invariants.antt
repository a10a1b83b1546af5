use Rattle.std.proofs.Common.{◌≡◌, ◌++◌, ℕ, List, take}
use Rattle.serve_text.specs.Records.{records_of}
use Rattle.serve_callers.specs.Running.{HasRun}
use Rattle.serve_callers.proofs.calling.run_caller.Given as goal

abbrev pub invariant-loop-record : goal.invariant-loop-record
invariant-loop-record g l =
    (new : List (List ℕ)) × (l.lines ≡ l.initial.lines ++ new)
    × HasRun g.S.State.step g.A.Answers.answer_of (records_of l.initial.caller.number (take l.record-index l.records)) l.initial.caller l.caller new
