use Rattle.std.proofs.Common.{◌≡◌, false, sym, ◌∙◌}
use Rattle.std.proofs.lemmas.Result.{IfOk-weaker}
use Rattle.inverted_index.proofs.Removed.{removed, without_absent}
use Rattle.inverted_index.specs.Queries.{is_known}
use Rattle.inverted_index.proofs.index.Index.remove_doc.Goals as goal

pub returns-then-not-is_there : goal.returns-then-not-is_there
returns-then-not-is_there c =
    let unknown : is_known c.args.self.now c.args.doc ≡ false = sym c.has_doc-is_there.ensures ∙ c.if-not-is_there.true in
    IfOk-weaker c.share.result _ _ (λ index h. h ∙ sym (without_absent c.args.self.now c.args.doc unknown)) c.share.ensures.value

pub invariant_of-result : goal.invariant_of-result
invariant_of-result c = (removed c.args.doc c.self.inside.known.entries c.self.inside.lists.entries c.in_ok-lists.lists.entries c.in_ok-known.known.entries c.args.self.now c.self.invariant c.self.view_is c.in_ok-known.ensures c.in_ok-lists.ensures.rises c.in_ok-lists.ensures.lists).0

pub returns : goal.returns
returns c = (removed c.args.doc c.self.inside.known.entries c.self.inside.lists.entries c.in_ok-lists.lists.entries c.in_ok-known.known.entries c.args.self.now c.self.invariant c.self.view_is c.in_ok-known.ensures c.in_ok-lists.ensures.rises c.in_ok-lists.ensures.lists).1
