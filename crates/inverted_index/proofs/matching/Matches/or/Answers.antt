use Rattle.std.proofs.Common.{ℕ, List, sym, ◌∙◌, subst}
use Rattle.inverted_index.specs.Ranks.{AreLow}
use Rattle.inverted_index.proofs.Questions.{either_matches, low_either}
use Rattle.inverted_index.proofs.matching.Matches.or.Goals as goal

pub invariant_of-result : goal.invariant_of-result
invariant_of-result c = subst (λ (m : List (ℕ × ℕ)). AreLow m) (sym c.in_ok-weights.ensures) (low_either c.self.inside.weights.entries c.other.inside.weights.entries c.size-size.ensures.increasing c.size-others.ensures.increasing c.self.invariant c.other.invariant)

pub returns-clause-documents : goal.returns-clause-documents
returns-clause-documents c ds f g s first second = c.in_ok-weights.ensures ∙ either_matches f g ds c.self.inside.weights.entries c.other.inside.weights.entries s (c.self.view_is ∙ first) (c.other.view_is ∙ second)
