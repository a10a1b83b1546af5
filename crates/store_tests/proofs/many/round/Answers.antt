use Rattle.batch_store.proofs.Rounds.{callers_stay}
use Rattle.store_tests.proofs.many.round.Goals as goal

pub returns : goal.returns
returns g c = callers_stay c.join-callers.ensures.second c.join-callers.ensures.first c.requires
