use Rattle.std.proofs.Common.{[], arith}
use Rattle.inverted_index.proofs.Steps.{union_all_end, union_all_more}
use Rattle.inverted_index.proofs.finding.union_all_alone.Goals as goal

pub loop-list-preserved : goal.loop-list-preserved
loop-list-preserved c = union_all_more c.in_ok-found.found.entries [] c.args.lists.now c.loop-list.list-index c.list-item.result c.map.result.now.entries c.loop-list.found.entries c.in_ok-found.ensures c.map.ensures c.loop-list.invariant (omega arith) c.list-item.is

pub returns-clause-entries : goal.returns-clause-entries
returns-clause-entries c = union_all_end c.loop-list.found.entries [] c.args.lists.now c.loop-list.list-index (omega arith) c.loop-list.invariant
