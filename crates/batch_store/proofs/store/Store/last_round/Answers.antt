use Rattle.std.proofs.Common.{ap, ◌∙◌}
use Rattle.version_root.specs.Public.{history}
use Rattle.batch_store.proofs.Rounds.{last_of}
use Rattle.batch_store.proofs.store.Store.last_round.Goals as goal

pub returns-clause-ok : goal.returns-clause-ok
returns-clause-ok g c =
    last_of c.args.self.now c.end_round.new.self c.args.callers.now c.end_round.new.callers c.in_ok-version.version c.end_round.ensures.keeps c.in_ok-end_round.ensures.ok
    (c.in_ok-version.ensures.value ∙ c.current.ensures ∙ ap (λ v. history v.base v.journal) c.self.view_is)
