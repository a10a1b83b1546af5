use Rattle.std.proofs.Common.{◌∙◌, ap, map, rules}
use Rattle.std.proofs.lemmas.List.{take_all}
use Rattle.range_tree.specs.Points.{entry_of}
use Rattle.range_tree.proofs.Kept.{entries_more, places_more}
use Rattle.range_tree.proofs.tree.entries_of.Goals as goal

pub loop-point-preserved : goal.loop-point-preserved
loop-point-preserved c = record {
  same = search (rules, entries_more);
  fit = rw c.in_ok-push.ensures.items (places_more _ _ c.loop-point.invariant.fit c.entry_of.ensures.fit);
}

pub returns-clause-same : goal.returns-clause-same
returns-clause-same c = c.loop-point.invariant.same ∙ ap (map entry_of) (take_all c.loop-point.point-index c.args.points.now c.loop-point-test.false)
