use Rattle.std.proofs.Common.{arith}
use Rattle.inverted_index.proofs.Steps.{common_end, common_more}
use Rattle.inverted_index.proofs.finding.common_alone.Goals as goal

pub loop-list-preserved : goal.loop-list-preserved
loop-list-preserved c = common_more c.in_ok-found-2.found.entries c.args.start.now.entries c.args.lists.now c.loop-list.list-index c.list-item.result c.map.result.now.entries c.loop-list.found.entries c.in_ok-found-2.ensures c.map.ensures c.loop-list.invariant (omega arith) c.list-item.is

pub returns-clause-entries : goal.returns-clause-entries
returns-clause-entries c = common_end c.loop-list.found.entries c.args.start.now.entries c.args.lists.now c.loop-list.list-index (omega arith) c.loop-list.invariant
