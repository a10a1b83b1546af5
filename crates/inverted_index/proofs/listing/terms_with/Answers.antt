use Rattle.std.proofs.Common.{ap, sym, ◌∙◌}
use Rattle.inverted_index.specs.Queries.{begins}
use Rattle.inverted_index.proofs.Prefixes.{walk_past, walk_start}
use Rattle.inverted_index.proofs.listing.terms_with.Goals as goal

pub loop-entry-init : goal.loop-entry-init
loop-entry-init c =
    let rest = c.into_iter-entry-iterator.ensures.into_iter_gives ∙ c.cursor_between-entry-items.ensures in
    walk_start c.args.front.now c.args.lists.now.entries c.into_iter-entry-iterator.result c.terms_below-from.result c.size.result c.new-terms.result.items c.size.ensures.increasing c.terms_below-from.ensures c.size.ensures.value rest c.new-terms.ensures.items

pub returns-then-not-starts_with : goal.returns-then-not-starts_with
returns-then-not-starts_with c =
    let here = rw c.in_ok-term.was at c.in-Some.ensures.steps.2 in
    let none = rw (c.bytes.ensures.value, c.bytes-in-loop-entry.ensures.value) at (sym c.starts_with.ensures.value ∙ c.if-not-starts_with.true) in
    walk_past c.args.front.now c.args.lists.now.entries c.loop-entry.terms.items c.loop-entry.entry-iterator c.next.new.self c.in-Some.ensures.steps.0 c.loop-entry.invariant c.in-Some.ensures.steps.1 (sym (ap (λ e. begins c.args.front.now e.0) here) ∙ none)
