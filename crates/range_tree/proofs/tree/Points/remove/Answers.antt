use Rattle.std.proofs.Common.{sym, ◌∙◌}
use Rattle.aug_monoid.specs.Exact.{pair64_exact}
use Rattle.map_model.proofs.Splits.{drop_key-absent}
use Rattle.range_tree.specs.Places.{pair64_total, place}
use Rattle.range_tree.proofs.tree.Points.remove.Goals as goal

pub returns-in_default-clause-after : goal.returns-in_default-clause-after
returns-in_default-clause-after c =
    sym (drop_key-absent pair64_total pair64_exact c.args.self.now (place c.args.x c.args.y) c.size-number.ensures.increasing (sym c.get.ensures ∙ c.in_default.is))
