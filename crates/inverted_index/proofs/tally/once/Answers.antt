use Rattle.std.proofs.Common.{◌++◌, ◌∷◌, ◌∙◌, [], ap₂}
use Rattle.inverted_index.proofs.Tallies.{tally_one}
use Rattle.inverted_index.proofs.tally.once.Goals as goal

pub returns : goal.returns
returns c = c.in_ok-push.ensures.items ∙ ap₂ (λ l t. l ++ (t, 1) ∷ []) c.in_ok-counts.ensures.items c.in_ok-share.ensures.value ∙ tally_one c.args.term.now
