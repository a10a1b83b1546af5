use Rattle.std.proofs.Common.{ap, map}
use Rattle.inverted_index.specs.Batches.{first_weights}
use Rattle.inverted_index.proofs.Steps.{given_more}
use Rattle.inverted_index.proofs.table.rows_of.Goals as goal

pub loop-term-preserved : goal.loop-term-preserved
loop-term-preserved c = given_more (λ e. (e.0, first_weights e.1)) (map (λ e. (e.0, first_weights e.1)) c.args.table.entries) c.loop-term.rows.items c.push.new.self.items c.loop-term.term-iterator c.next.new.self (c.in-Some.term, c.in-Some.pairs) (c.in-Some.term, c.in_ok-postings.field-0) c.loop-term.invariant c.in-Some.ensures.steps (ap (λ z. (c.in-Some.term, z)) c.in_ok-postings.ensures) c.in_ok-push.ensures.items
