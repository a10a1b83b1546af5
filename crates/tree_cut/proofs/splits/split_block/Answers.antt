use Rattle.std.proofs.Common.{sym, ◌∙◌}
use Rattle.std.proofs.lemmas.Bool.{false_from_ne_true, false≢true}
use Rattle.map_model.proofs.Cuts.{none_of_absent}
use Rattle.tree_cut.proofs.splits.split_block.Goals as goal

pub split_between-requires-clause-missed : goal.split_between-requires-clause-missed
split_between-requires-clause-missed g c = none_of_absent _ (false_from_ne_true _ (λ h. false≢true (sym c.if-place.false ∙ c.seek-place.ensures.hit.1 h)))

pub returns-else-place-clause-found : goal.returns-else-place-clause-found
returns-else-place-clause-found g c =
    rw (none_of_absent _ (false_from_ne_true _ (λ h. false≢true (sym c.if-place.false ∙ c.seek-place.ensures.hit.1 h)))) c.split_between.ensures.found
