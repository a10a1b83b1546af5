use Rattle.std.proofs.Common.{◌↔◌, IsTrue, Contains, subst}
use Rattle.std.proofs.lemmas.Result.{IfOk-weaker}
use Rattle.std.specs.Map.{keys_of}
use Rattle.aug_monoid.specs.Spans.{span, span_exact}
use Rattle.map_model.proofs.Members.{has_key}
use Rattle.interval_map.proofs.Reached.{ends_total}
use Rattle.interval_map.proofs.valued.IntervalMap.contains.Goals as goal

pub returns-clause-value : goal.returns-clause-value
returns-clause-value g c =
    IfOk-weaker c.contains_key.result _ _
    (λ found is.
    subst (λ m. IsTrue found ↔ Contains (keys_of m) (span c.args.left.now c.args.right.now)) c.self.view_is
    (subst (λ i. IsTrue found ↔ Contains (keys_of c.self.inside.map) i) c.in_ok-ends.ensures.value
    (has_key (ends_total g.met.E.Ord.total) (span_exact g.E.Ord.cmp g.met.E.Key.exact) c.self.inside.map c.in_ok-ends.ends found is)))
    c.contains_key.ensures.value
