use Rattle.std.proofs.Common.{arith}
use Rattle.inverted_index.specs.Merging.{postings_at}
use Rattle.inverted_index.proofs.Steps.{map_end, map_more}
use Rattle.inverted_index.proofs.finding.find_lists.Goals as goal

pub loop-term-preserved : goal.loop-term-preserved
loop-term-preserved g c = map_more (postings_at c.args.lists.now.entries) c.args.terms.now c.loop-term.term-index c.term-item.result c.push.new.self.items c.loop-term.found.items c.in_ok-find_list.field-0 (omega arith) c.term-item.is c.loop-term.invariant c.in_ok-find_list.ensures.postings c.in_ok-push.ensures.items

pub returns : goal.returns
returns g c = map_end (postings_at c.args.lists.now.entries) c.args.terms.now c.loop-term.term-index c.loop-term.found.items (omega arith) c.loop-term.invariant
