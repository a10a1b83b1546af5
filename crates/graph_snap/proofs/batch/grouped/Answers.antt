use Rattle.std.proofs.Common.{◌≡◌, ◌≤◌, ◌∙◌, ℕ, Some, ap, length, take, drop, refl, rules, slice_get, subst, sym, arith}
use Rattle.std.proofs.lemmas.List.{drop-map, length-map, take-map}
use Rattle.std.specs.Ordering.{nat_cmp}
use Rattle.map_model.specs.Entries.{IsIncreasing}
use Rattle.graph_snap.specs.Batches.{ends}
use Rattle.graph_snap.proofs.Runs.{ends_rise, grouping_goes_on, run_within}
use Rattle.graph_snap.proofs.batch.grouped.Goals as goal

-- the ends of a run are as many of the ends of what is left
abbrev end_of : ℕ × ℕ → ℕ × Unit {0}
end_of e = (e.1, tt)

pub split_at-requires : goal.split_at-requires
split_at-requires c = subst (λ n. n ≤ length c.loop-edge.rest.now) (sym c.run_length-count.ensures) (run_within _ c.loop-edge.rest.now)

pub split_at-requires-in-Some : goal.split_at-requires-in-Some
split_at-requires-in-Some c =
    let within : c.run_length-count.result ≤ length c.loop-edge.rest.now = subst (λ n. n ≤ length c.loop-edge.rest.now) (sym c.run_length-count.ensures) (run_within _ c.loop-edge.rest.now) in
    let as_many : length c.loop-edge.rest_ends.now ≡ length c.loop-edge.rest.now = ap length c.loop-edge.invariant.1 ∙ length-map c.loop-edge.rest.now end_of in
    omega (arith, within, as_many)

pub of_ends-requires : goal.of_ends-requires
of_ends-requires c =
    let first : slice_get c.loop-edge.rest.now 0 ≡ Some c.in-Some.edge.now = search rules in
    let here : c.split_at-in-Some.result.0.now ≡ ends (take c.run_length-count.result c.loop-edge.rest.now) = c.split_at-in-Some.ensures.front ∙ ap (take c.run_length-count.result) c.loop-edge.invariant.1 ∙ take-map end_of c.run_length-count.result c.loop-edge.rest.now in
    subst (IsIncreasing nat_cmp) (sym here) (ends_rise c.args.edges.now c.requires c.loop-edge.sets.items c.loop-edge.rest.now (take c.run_length-count.result c.loop-edge.rest.now) c.in-Some.edge.now c.run_length-count.result c.loop-edge.invariant.0 first c.run_length-count.ensures refl)

pub loop-edge-preserved : goal.loop-edge-preserved
loop-edge-preserved c =
    let count = c.run_length-count.result in
    let rest = c.loop-edge.rest.now in
    let first : slice_get rest 0 ≡ Some c.in-Some.edge.now = search rules in
    let here : c.split_at-in-Some.result.0.now ≡ ends (take count rest) = c.split_at-in-Some.ensures.front ∙ ap (take count) c.loop-edge.invariant.1 ∙ take-map end_of count rest in
    let behind : c.split_at-in-Some.result.1.now ≡ ends (drop count rest) = c.split_at-in-Some.ensures.back ∙ ap (drop count) c.loop-edge.invariant.1 ∙ drop-map end_of count rest in (
      grouping_goes_on c.args.edges.now c.requires c.loop-edge.sets.items c.push.new.self.items rest (take count rest) c.split_at.result.1.now c.in-Some.edge.now count c.in_ok-set.set c.loop-edge.invariant.0 first c.run_length-count.ensures refl c.split_at.ensures.back (c.in_ok-set.ensures ∙ here) c.in_ok-push.ensures.items,
      behind ∙ ap ends (sym c.split_at.ensures.back),
    )
