use Rattle.std.proofs.Common.{◌∙◌, refl, arith}
use Rattle.graph_comp.proofs.Trees.{united_all, united_more, united_none}
use Rattle.graph_comp.proofs.forest.unite_all.Goals as goal

pub loop-place-init : goal.loop-place-init
loop-place-init c = record { forest = c.requires.forest; len = refl; united = united_none c.args.parents.now c.args.others.now }

pub loop-place-preserved : goal.loop-place-preserved
loop-place-preserved c = record {
  forest = c.unite.ensures.forest;
  len = c.unite.ensures.len ∙ c.loop-place.invariant.len;
  united = united_more c.unite.new.parents c.loop-place.parents c.args.parents.now c.args.others.now c.loop-place.place c.loop-place.invariant.united c.unite.ensures.united;
}

pub returns-clause-united : goal.returns-clause-united
returns-clause-united c = united_all c.loop-place.parents c.args.parents.now c.args.others.now c.loop-place.place (omega arith) c.loop-place.invariant.united
