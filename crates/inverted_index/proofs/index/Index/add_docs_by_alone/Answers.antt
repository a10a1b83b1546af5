use Rattle.std.proofs.Common.{◌∙◌}
use Rattle.inverted_index.proofs.Batched.{batched}
use Rattle.inverted_index.proofs.Weighed.{rising_by}
use Rattle.inverted_index.specs.Terms.{weighed_by}
use Rattle.inverted_index.proofs.index.Index.add_docs_by_alone.Goals as goal

pub invariant_of-result : goal.invariant_of-result
invariant_of-result g c =
    let by = weighed_by (g.W.Weigh.weight c.args.weigh.now) in
    let e = c.in_ok-lists.ensures.lists in
    (batched by (rising_by (g.W.Weigh.weight c.args.weigh.now)) c.args.docs.now c.deref.result.now c.self.inside.known.entries c.in_ok-known.known.entries c.self.inside.lists.entries e.0 c.in_ok-lists.field-0.lists.entries c.args.self.now c.in_ok-lists.field-0.outcomes.items c.self.invariant c.self.view_is c.in_ok-known.ensures.after (c.deref.ensures.value ∙ c.in_ok-known.ensures.marks) e.1 e.2).0

pub returns-clause-index : goal.returns-clause-index
returns-clause-index g c =
    let by = weighed_by (g.W.Weigh.weight c.args.weigh.now) in
    let e = c.in_ok-lists.ensures.lists in
    (batched by (rising_by (g.W.Weigh.weight c.args.weigh.now)) c.args.docs.now c.deref.result.now c.self.inside.known.entries c.in_ok-known.known.entries c.self.inside.lists.entries e.0 c.in_ok-lists.field-0.lists.entries c.args.self.now c.in_ok-lists.field-0.outcomes.items c.self.invariant c.self.view_is c.in_ok-known.ensures.after (c.deref.ensures.value ∙ c.in_ok-known.ensures.marks) e.1 e.2).1

pub returns-clause-outcomes : goal.returns-clause-outcomes
returns-clause-outcomes g c =
    let by = weighed_by (g.W.Weigh.weight c.args.weigh.now) in
    let e = c.in_ok-lists.ensures.lists in
    (batched by (rising_by (g.W.Weigh.weight c.args.weigh.now)) c.args.docs.now c.deref.result.now c.self.inside.known.entries c.in_ok-known.known.entries c.self.inside.lists.entries e.0 c.in_ok-lists.field-0.lists.entries c.args.self.now c.in_ok-lists.field-0.outcomes.items c.self.invariant c.self.view_is c.in_ok-known.ensures.after (c.deref.ensures.value ∙ c.in_ok-known.ensures.marks) e.1 e.2).2
