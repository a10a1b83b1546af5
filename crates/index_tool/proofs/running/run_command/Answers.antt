use Rattle.std.proofs.Common.{ap, ◌∙◌, ◌++◌}
use Rattle.index_tool.specs.Effects.{doc_lines, outcome_line}
use Rattle.inverted_index.specs.Added.{outcome, with_doc, with_docs}
use Rattle.index_tool.proofs.Waiting.{docs_more, lines_more}
use Rattle.index_tool.proofs.running.run_command.Goals as goal

pub returns-in-Doc-clause-after : goal.returns-in-Doc-clause-after
returns-in-Doc-clause-after g c =
    rw c.in-Doc.is (ap (with_docs c.args.index) c.in_ok-push.ensures.items
    ∙ docs_more c.args.index c.args.waiting.now.items _
    ∙ ap (with_doc (with_docs c.args.index c.args.waiting.now.items) c.in-Doc.i) c.items.ensures)

pub returns-in-Doc-clause-reply : goal.returns-in-Doc-clause-reply
returns-in-Doc-clause-reply g c =
    let text = c.args.text.now.items in
    let waiting = c.args.waiting.now.items in
    rw c.in-Doc.is (ap (λ docs. text ++ doc_lines c.args.index docs) c.in_ok-push.ensures.items
    ∙ lines_more text c.args.index waiting _
    ∙ ap (λ words. (text ++ doc_lines c.args.index waiting) ++ outcome_line (outcome (with_docs c.args.index waiting) c.in-Doc.i words)) c.items.ensures)
