use Rattle.std.proofs.Common.{◌==◌, rules}
use Rattle.std.proofs.lemmas.List.Sorted.{IsPartitionPoint-from_clause}
use Rattle.serve_rounds.proofs.FirstRound.{first_is_front, all_here, rest_later}
use Rattle.serve_rounds.proofs.rounds.round_length.Goals as goal

pub returns-clause-here : goal.returns-clause-here
returns-clause-here g c =
    let first = c.args.first in
    let records = c.args.records.now in
    let point = IsPartitionPoint-from_clause (λ r. r.round == first) records c.partition_point.result c.partition_point.ensures.partitioned (first_is_front first records c.requires.least c.requires.rise) (λ a r f' called. search rules) in
    all_here first records c.requires.least c.partition_point.result c.partition_point.ensures.bound point

pub returns-clause-later : goal.returns-clause-later
returns-clause-later g c =
    let first = c.args.first in
    let records = c.args.records.now in
    let point = IsPartitionPoint-from_clause (λ r. r.round == first) records c.partition_point.result c.partition_point.ensures.partitioned (first_is_front first records c.requires.least c.requires.rise) (λ a r f' called. search rules) in
    rest_later first records c.requires.least c.partition_point.result c.partition_point.ensures.bound point
