use Rattle.version_root.specs.Public.{IsPrefix}
use Rattle.batch_store.specs.Keeping.{SameStore}
use Rattle.serve_callers.proofs.combining.combine.Given as goal

abbrev pub invariant-loop-turn : goal.invariant-loop-turn
invariant-loop-turn g l = record { same : SameStore l.initial.store l.store; begins : IsPrefix l.initial.store.journal l.store.journal }
