use Rattle.std.proofs.Common.{arith, refl}
use Rattle.graph_comp.proofs.Trees.{at_root, climbed_more, climbs, same_itself}
use Rattle.graph_comp.proofs.forest.root.Goals as goal

pub climb-init : goal.climb-init
climb-init c = record {
  forest = c.requires.forest;
  len = refl;
  within = c.requires.within;
  same = same_itself c.args.parents.now;
  roots = λ v is. is;
  tree = λ label keeps. refl;
}

pub climb-preserved : goal.climb-preserved
climb-preserved c = climbed_more c.args.parents.now c.climb.parents c.args.start c.climb.place c.climb.invariant

pub climb-smaller : goal.climb-smaller
climb-smaller c = climbs c.args.parents.now c.climb.parents c.args.start c.climb.place c.climb.invariant (omega arith)

pub returns-clause-root : goal.returns-clause-root
returns-clause-root c = at_root c.args.parents.now c.climb.parents c.args.start c.climb.place c.climb.invariant (omega arith)
