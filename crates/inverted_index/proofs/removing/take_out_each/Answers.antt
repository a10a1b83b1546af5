use Rattle.std.proofs.Common.{arith}
use Rattle.map_model.specs.Entries.{lookup}
use Rattle.inverted_index.proofs.Removed.{all_gone_over, one_less}
use Rattle.inverted_index.specs.Removing.{taken}
use Rattle.inverted_index.specs.Terms.{bytes_cmp}
use Rattle.inverted_index.proofs.removing.take_out_each.Goals as goal

pub loop-term-preserved : goal.loop-term-preserved
loop-term-preserved g c = λ t. one_less c.args.doc c.args.entries.now c.loop-term.term-index c.loop-term-item.result t (lookup bytes_cmp c.loop-term.lists.entries t) (lookup bytes_cmp c.take_out.new.lists.entries t) (taken c.args.doc (lookup bytes_cmp c.args.entries.now t) (lookup bytes_cmp c.args.lists.now.entries t)) c.requires (omega arith) c.loop-term-item.is (c.loop-term.invariant t) (c.in_ok-take_out.ensures t)

pub returns : goal.returns
returns g c = λ t. all_gone_over c.args.doc c.args.entries.now c.loop-term.term-index t (lookup bytes_cmp c.loop-term.lists.entries t) (taken c.args.doc (lookup bytes_cmp c.args.entries.now t) (lookup bytes_cmp c.args.lists.now.entries t)) (omega arith) (c.loop-term.invariant t)
