use Rattle.std.proofs.Common.{[], ◌∷◌, ◌++◌, ap, ◌∙◌}
use Rattle.serve_rounds.proofs.running.Round.turns_of_thread.Goals as goal

pub returns : goal.returns
returns g c =
    let later = c.in_ok-later.later in
    (later, c.in_ok-push.ensures.items ∙ ap (λ l. l ++ later ∷ []) c.in_ok-stores.ensures.items, c.in_ok-later.ensures.0, c.in_ok-later.ensures.1)
