use Rattle.std.proofs.Common.{◌++◌, ap, ◌∙◌}
use Rattle.inverted_index.proofs.Batches.{gathered_both}
use Rattle.inverted_index.specs.Terms.{weighed_by}
use Rattle.inverted_index.proofs.batch.GatheringDivideRefSliceMarkedUnitGathered.close.Goals as goal

pub returns-clause-answer : goal.returns-clause-answer
returns-clause-answer g c = λ part front back is near far.
    gathered_both (weighed_by (g.W.Weigh.weight c.args.self.now.weigh.now)) part.now front.now back.now c.args.left.lists.entries c.args.right.lists.entries c.in_ok-lists.lists.entries c.args.left.outcomes.items c.args.right.outcomes.items c.extend_from_slice.new.self.items is near far c.in_ok-lists.ensures (c.in_ok-extend_from_slice.ensures.items ∙ ap (λ x. c.args.left.outcomes.items ++ x) c.deref.ensures.value)
