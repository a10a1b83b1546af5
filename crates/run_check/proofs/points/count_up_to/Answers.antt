use Rattle.std.proofs.Common.{rules}
use Rattle.std.specs.Prelude.{nat_le}
use Rattle.std.proofs.lemmas.List.Sorted.{IsPartitionPoint-from_clause}
use Rattle.run_check.proofs.NeverFalling.{point_count, up_to_parts}
use Rattle.run_check.proofs.points.count_up_to.Goals as goal

pub returns : goal.returns
returns g c =
    let point = IsPartitionPoint-from_clause (λ p. nat_le p.round c.args.round) c.args.placed.now c.partition_point.result c.partition_point.ensures.partitioned (up_to_parts (λ p. p.round) c.args.round c.args.placed.now c.requires) (λ a r f' called. search rules) in
    point_count (λ p. nat_le p.round c.args.round) c.args.placed.now c.partition_point.result c.partition_point.ensures.bound point.0 point.1
