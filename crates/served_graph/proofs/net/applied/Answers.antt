use Rattle.std.proofs.Common.{◌∙◌, ap, ap₂}
use Rattle.std.proofs.lemmas.Result.{IfOk-weaker}
use Rattle.std.specs.List.{flat_map}
use Rattle.aug_monoid.specs.Exact.{pair64_cmp}
use Rattle.map_model.specs.Operations.{build}
use Rattle.graph_snap.specs.Edges.{pairs_of, with_edges, without_edges}
use Rattle.served_graph.specs.Nets.{added_parts, cut_parts}
use Rattle.served_graph.proofs.Netted.{at_once}
use Rattle.served_graph.proofs.net.applied.Goals as goal

pub returns : goal.returns
returns g c =
    IfOk-weaker c.changed.result _ _ (λ new is.
    is
    ∙ ap₂ (λ cut added. with_edges (without_edges c.args.graph.now (pairs_of cut)) (pairs_of added))
    (c.in_ok-net.ensures.cut ∙ ap (λ fates. cut_parts (build pair64_cmp fates)) (c.deref.ensures.value ∙ c.in_ok-fates.ensures))
    (c.in_ok-net.ensures.added ∙ ap (λ fates. added_parts (build pair64_cmp fates)) (c.deref.ensures.value ∙ c.in_ok-fates.ensures))
    ∙ at_once (flat_map (λ batch. batch) c.args.batches.now) c.args.graph.now c.edges-ordered.ensures.ordered) c.changed.ensures
