use Rattle.std.proofs.Common.{subst}
use Rattle.std.specs.Prelude.{IfOk}
use Rattle.serve_rounds.specs.Rounds.{Follows}
use Rattle.serve_rounds.proofs.HaveRuns.{follows_one}
use Rattle.serve_rounds.proofs.parts.run_beside.Goals as goal

pub returns-clause-store : goal.returns-clause-store
returns-clause-store g c =
    let follows : Follows c.args.store c.in_ok-stores.stores.items = subst (λ r. IfOk r (λ stores. Follows c.args.store stores.items)) c.in_ok-stores.was c.side_by_side-ran.ensures.store in
    follows_one c.args.store c.only-later.result c.in_ok-stores.stores.items follows c.only-later.ensures
