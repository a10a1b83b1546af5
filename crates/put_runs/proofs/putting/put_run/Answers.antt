use Rattle.std.proofs.Common.{ℕ, ap, ◌∙◌}
use Rattle.std.specs.Ordering.{nat_cmp}
use Rattle.map_model.specs.SetOperations.{union}
use Rattle.put_runs.proofs.LastPlaces.{union-lasts}
use Rattle.put_runs.proofs.putting.put_run.Goals as goal

pub returns-clause-entries : goal.returns-clause-entries
returns-clause-entries g c =
    let m = c.args.map.entries in
    c.in_ok-after.ensures
    ∙ ap (λ lasts. union nat_cmp (λ (v w : ℕ). w) m lasts) c.deref-2.ensures.value
    ∙ union-lasts c.args.entries.now c.in_ok-firsts.lasts.items m c.size-size.ensures.increasing c.in_ok-firsts.ensures.lasts
