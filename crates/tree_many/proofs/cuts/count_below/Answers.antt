use Rattle.std.proofs.Common.{rules}
use Rattle.std.proofs.lemmas.List.Sorted.{IsPartitionPoint-from_clause}
use Rattle.std.specs.Ordering.{is_lt}
use Rattle.tree_many.proofs.Parted.{less_parted, front_below, back_least}
use Rattle.tree_many.proofs.cuts.count_below.Goals as goal

pub returns-clause-front : goal.returns-clause-front
returns-clause-front g c =
    let order = g.K.Ord.cmp in
    let m = c.args.keys.now in
    let q = c.args.key.now in
    let i = c.partition_point.result in
    let point = IsPartitionPoint-from_clause (λ e. is_lt (order e.0 q)) m i c.partition_point.ensures.partitioned (less_parted g.met.K.Ord.total q m c.requires) (λ a r f' called. search rules) in
    front_below g.met.K.Ord.total q m i point

pub returns-clause-back : goal.returns-clause-back
returns-clause-back g c =
    let order = g.K.Ord.cmp in
    let m = c.args.keys.now in
    let q = c.args.key.now in
    let i = c.partition_point.result in
    let point = IsPartitionPoint-from_clause (λ e. is_lt (order e.0 q)) m i c.partition_point.ensures.partitioned (less_parted g.met.K.Ord.total q m c.requires) (λ a r f' called. search rules) in
    back_least g.met.K.Ord.total q m i point
