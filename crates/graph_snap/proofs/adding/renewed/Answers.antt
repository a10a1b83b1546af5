use Rattle.std.proofs.Common.{◌≡◌, ◌≤◌, Some, length, rules, slice_get, subst, sym}
use Rattle.graph_snap.proofs.Runs.{ends_rise, run_within}
use Rattle.graph_snap.proofs.Renewals.{IsRenewing, renewing_goes_on, renewing_starts}
use Rattle.graph_snap.proofs.adding.renewed.Goals as goal

pub loop-edge-init : goal.loop-edge-init
loop-edge-init c = subst (λ sets. IsRenewing c.args.vertices.now.entries c.args.edges.now sets c.args.edges.now) (sym c.new-sets.ensures.items) (renewing_starts c.args.vertices.now.entries c.args.edges.now)

pub split_at-requires : goal.split_at-requires
split_at-requires c = subst (λ n. n ≤ length c.loop-edge.rest.now) (sym c.run_length.ensures) (run_within _ c.loop-edge.rest.now)

pub renewed_set-requires : goal.renewed_set-requires
renewed_set-requires c =
    let first : slice_get c.loop-edge.rest.now 0 ≡ Some c.in-Some.edge.now = search rules in
    ends_rise c.args.edges.now c.requires c.loop-edge.invariant.batch c.loop-edge.rest.now c.split_at.result.0.now c.in-Some.edge.now c.run_length.result c.loop-edge.invariant.grouping first c.run_length.ensures c.split_at.ensures.front

pub loop-edge-preserved : goal.loop-edge-preserved
loop-edge-preserved c =
    let first : slice_get c.loop-edge.rest.now 0 ≡ Some c.in-Some.edge.now = search rules in
    renewing_goes_on c.args.vertices.now.entries c.args.edges.now c.requires c.loop-edge.sets.items c.push.new.self.items c.loop-edge.rest.now c.split_at.result.0.now c.split_at.result.1.now c.in-Some.edge.now c.run_length.result c.in_ok-set.set c.loop-edge.invariant first c.run_length.ensures c.split_at.ensures.front c.split_at.ensures.back c.in_ok-set.ensures c.in_ok-push.ensures.items
