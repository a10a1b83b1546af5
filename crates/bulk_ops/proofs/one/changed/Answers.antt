use Rattle.map_model.proofs.Splits.{drop_key-split}
use Rattle.bulk_ops.proofs.one.changed.Goals as goal

pub returns-in-None-clause-value : goal.returns-in-None-clause-value
returns-in-None-clause-value g c =
    let split = drop_key-split g.met.M.Key.Ord.total g.met.M.Key.Key.exact c.args.tree.now.entries c.args.key.now c.size-size.ensures.increasing in
    rw c.in-None.is (rw split at c.del.ensures.entries)
