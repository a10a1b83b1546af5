use Rattle.std.proofs.Common.{◌∙◌, ◌++◌, ap, subst, sym}
use Rattle.std.proofs.lemmas.List.{drop_more}
use Rattle.std.specs.List.{AllByRecursion}
use Rattle.index_tool.specs.Effects.{doc_lines}
use Rattle.index_tool.specs.IndexRecords.{HasTerms}
use Rattle.index_tool.proofs.Waiting.{replies_more, replies_whole}
use Rattle.inverted_index.specs.Added.{with_docs}
use Rattle.index_tool.proofs.running.run_index.Goals as goal

pub loop-command-preserved : goal.loop-command-preserved
loop-command-preserved g c =
    let commands = c.args.commands.now in
    let i = c.loop-command.command-index in
    record {
      lawful = (subst (AllByRecursion HasTerms) (drop_more commands i c.command-item.result c.loop-command-test.true) c.loop-command.invariant.lawful).1;
      same = replies_more _ (c.loop-command.text.items ++ doc_lines c.loop-command.index c.loop-command.waiting.items) (c.run_command.new.text.items ++ doc_lines c.in_ok-index.index c.run_command.new.waiting.items) (with_docs c.loop-command.index c.loop-command.waiting.items) (with_docs c.in_ok-index.index c.run_command.new.waiting.items) commands i c.command-item.result c.loop-command-test.true c.command-item.is c.loop-command.invariant.same c.in_ok-index.ensures.reply c.in_ok-index.ensures.after;
    }

pub returns : goal.returns
returns g c = replies_whole _ (c.loop-command.text.items ++ doc_lines c.loop-command.index c.loop-command.waiting.items) c.settle.new.text.items (with_docs c.loop-command.index c.loop-command.waiting.items) c.args.commands.now c.loop-command.command-index c.loop-command-test.false c.loop-command.invariant.same (c.in_ok-_index.ensures.reply ∙ ap (λ docs. c.loop-command.text.items ++ doc_lines c.loop-command.index docs) c.deref.ensures.value)

pub run_command-requires-after_bounds : goal.run_command-requires-after_bounds
run_command-requires-after_bounds g c κs within = subst HasTerms (sym c.command-item.is) (subst (AllByRecursion HasTerms) (drop_more c.args.commands.now c.loop-command.command-index c.command-item.result c.loop-command-test.true) c.loop-command.invariant.lawful).0
