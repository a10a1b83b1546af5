use Rattle.std.proofs.Common.{◌≡◌, ◌++◌, [], drop}
use Rattle.std.specs.List.{AllByRecursion}
use Rattle.index_tool.specs.Effects.{doc_lines, index_after, index_reply}
use Rattle.index_tool.specs.IndexRecords.{HasTerms}
use Rattle.inverted_index.specs.Added.{with_docs}
use Rattle.script.specs.Replies.{replies}
use Rattle.index_tool.proofs.running.run_index.Given as goal

abbrev pub invariant-loop-command : goal.invariant-loop-command
invariant-loop-command g l = record {
  lawful : AllByRecursion HasTerms (drop l.command-index l.commands);
  same : replies index_reply index_after [] l.commands ≡ (l.text.items ++ doc_lines l.index l.waiting.items) ++ replies index_reply index_after (with_docs l.index l.waiting.items) (drop l.command-index l.commands);
}
