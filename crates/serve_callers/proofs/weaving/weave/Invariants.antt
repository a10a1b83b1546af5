use Rattle.serve_callers.specs.Weaving.{WeavesSome}
use Rattle.serve_callers.proofs.weaving.weave.Given as goal

abbrev pub invariant-loop-record : goal.invariant-loop-record
invariant-loop-record g l = WeavesSome l.record-index l.records l.initial.lines l.lines l.initial.text.items l.text.items
