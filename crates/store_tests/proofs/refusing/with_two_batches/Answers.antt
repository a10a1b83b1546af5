use Rattle.std.proofs.Common.{refl}
use Rattle.batch_store.proofs.Rounds.{callers_stay}
use Rattle.store_tests.proofs.refusing.with_two_batches.Goals as goal

pub returns : goal.returns
returns c = callers_stay (record { root = refl; base = refl; lanes = refl }) c.in_ok-callers.ensures c.in_ok-store.ensures
