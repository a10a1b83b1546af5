use Rattle.std.proofs.Common.{rules}
use Rattle.std.specs.Prelude.{nat_lt}
use Rattle.std.proofs.lemmas.List.Sorted.{IsPartitionPoint-from_clause}
use Rattle.run_check.proofs.NeverFalling.{point_count, below_parts}
use Rattle.run_check.proofs.points.count_before.Goals as goal

pub returns : goal.returns
returns g c =
    let point = IsPartitionPoint-from_clause (λ p. nat_lt p.round c.args.round) c.args.placed.now c.partition_point.result c.partition_point.ensures.partitioned (below_parts (λ p. p.round) c.args.round c.args.placed.now c.requires) (λ a r f' called. search rules) in
    point_count (λ p. nat_lt p.round c.args.round) c.args.placed.now c.partition_point.result c.partition_point.ensures.bound point.0 point.1
