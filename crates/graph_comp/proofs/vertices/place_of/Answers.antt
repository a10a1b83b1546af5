use Rattle.std.proofs.Common.{ℕ, nat_lt, rules}
use Rattle.std.proofs.lemmas.List.Sorted.{IsPartitionPoint-from_clause, IsPartitionedBy-ltb}
use Rattle.graph_comp.proofs.Ends.{place_at, place_within}
use Rattle.graph_comp.proofs.vertices.place_of.Goals as goal

pub returns-clause-within : goal.returns-clause-within
returns-clause-within c =
    let list = c.args.vertices.now in
    let v = c.args.vertex in
    let place = c.partition_point.result in
    let point = IsPartitionPoint-from_clause (λ (w : ℕ). nat_lt w v) list place c.partition_point.ensures.partitioned (IsPartitionedBy-ltb (λ (w : ℕ). w) list v c.requires.order) (λ a r f' called. search rules) in
    place_within list v place c.requires.order point c.requires.found

pub returns-clause-at : goal.returns-clause-at
returns-clause-at c =
    let list = c.args.vertices.now in
    let v = c.args.vertex in
    let place = c.partition_point.result in
    let point = IsPartitionPoint-from_clause (λ (w : ℕ). nat_lt w v) list place c.partition_point.ensures.partitioned (IsPartitionedBy-ltb (λ (w : ℕ). w) list v c.requires.order) (λ a r f' called. search rules) in
    place_at list v place c.requires.order point c.requires.found
