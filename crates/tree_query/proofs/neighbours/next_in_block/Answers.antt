use Rattle.std.proofs.Common.{◌+◌, sym, ap, ◌∙◌, arith}
use Rattle.std.specs.List.{slice_get}
use Rattle.std.proofs.lemmas.Bool.{true≢false}
use Rattle.std.proofs.lemmas.Result.{IfOk-weaker}
use Rattle.tree_query.proofs.Blocks.{rank_found, next_behind, next_there}
use Rattle.tree_query.proofs.neighbours.next_in_block.Goals as goal

pub overflow_add-place : goal.overflow_add-place
overflow_add-place g c =
    let found = rank_found g.met.K.Ord.total (g.L.Leaf.entries c.args.leaf.now) c.args.key.now c.requires.increasing (c.seek-place.ensures.hit.0 c.if-place.true) in
    omega (arith, found, c.seek-place.ensures.at, c.len-number.ensures.value)

pub returns-then-place-clause-value : goal.returns-then-place-clause-value
returns-then-place-clause-value g c =
    let entries = g.L.Leaf.entries c.args.leaf.now in
    let behind = next_behind g.met.K.Ord.total entries c.args.key.now c.requires.increasing (c.seek-place.ensures.hit.0 c.if-place.true) in
    IfOk-weaker c.owned.result _ _ (λ x h. h ∙ c.get_at.ensures ∙ ap (λ at. slice_get entries (at + 1)) c.seek-place.ensures.at ∙ sym behind) c.owned.ensures.value

pub returns-else-place-clause-value : goal.returns-else-place-clause-value
returns-else-place-clause-value g c =
    let entries = g.L.Leaf.entries c.args.leaf.now in
    let there = next_there g.met.K.Ord.total entries c.args.key.now c.requires.increasing (λ some. absurd (true≢false (sym (c.seek-place.ensures.hit.1 some) ∙ c.if-place.false))) in
    IfOk-weaker c.owned-else-place.result _ _ (λ x h. h ∙ c.get_at-else-place.ensures ∙ ap (slice_get entries) c.seek-place.ensures.at ∙ sym there) c.owned-else-place.ensures.value
