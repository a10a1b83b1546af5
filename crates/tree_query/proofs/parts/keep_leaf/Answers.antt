use Rattle.std.proofs.Common.{arith}
use Rattle.map_model.proofs.Keys.{IsIncreasing-filter}
use Rattle.map_model.proofs.Lengths.{length-filter_le}
use Rattle.tree_query.specs.Within.{in_range}
use Rattle.tree_query.proofs.parts.keep_leaf.Goals as goal

pub from_owned-requires-clause-increasing : goal.from_owned-requires-clause-increasing
from_owned-requires-clause-increasing g c =
    let cmp = g.M.Key.Ord.cmp in
    rw c.in_ok-kept.ensures (IsIncreasing-filter cmp (λ e. in_range cmp c.args.range.now e.0) (g.M.Leaf.Leaf.entries c.args.leaf.now) c.requires.increasing)

pub from_owned-requires-clause-fits : goal.from_owned-requires-clause-fits
from_owned-requires-clause-fits g c =
    let cmp = g.M.Key.Ord.cmp in
    let few = length-filter_le (λ e. in_range cmp c.args.range.now e.0) (g.M.Leaf.Leaf.entries c.args.leaf.now) in
    rw c.in_ok-kept.ensures (omega (arith, few, c.requires.short, g.M.Shape.lawful))
