use Rattle.std.proofs.Common.{◌≡◌, ◌+◌, ◌<◌, ◌≤◌, true, false, length, arith, sym, ap, ap₂, ◌∙◌}
use Rattle.std.specs.Ordering.{is_eq}
use Rattle.sorted_lists.proofs.FrontPairs.{all_seen, comes_forward, stays_behind}
use Rattle.sorted_lists.proofs.firsts.bring_firsts_to_front.Goals.{then-not-is_eq, else-not-is_eq}
use Rattle.sorted_lists.proofs.firsts.bring_firsts_to_front.Goals as goal

pub loop-at-preserved : goal.loop-at-preserved
loop-at-preserved g c =
    let alike = λ (x y : g.row.K.Denot × g.row.V.Denot). is_eq (g.K.Ord.cmp x.0 y.0) in
    let old = c.args.pairs.now in
    let at = c.loop-at in
    let x = c.index-row-at.result in
    let w = c.index-row-kept.result in
    let within : at.at < length at.pairs = omega (arith, at.invariant.0.long) in
    let counted : c.order.new.steps + 1 ≤ c.args.steps.now + (at.at + 1) = omega (arith, c.order.ensures.one_step, at.invariant.1) in
    let told : c.is_eq.result ≡ alike x w = c.is_eq.ensures ∙ ap is_eq (c.order.ensures.value ∙ ap₂ (λ (p q : g.row.K.Denot × g.row.V.Denot). g.K.Ord.cmp p.0 q.0) (sym c.index-row-at.is) (sym c.index-row-kept.is)) in
    elim c.if-not-is_eq.branch [
      | then-not-is_eq v ↦
          let differs : alike x w ≡ false = sym told ∙ v.if-not-is_eq.true in
          rw (v.pairs-is, v.kept-is) (comes_forward alike old at.pairs at.kept at.at x w within c.index-row-at.is c.index-row-kept.is at.invariant.0 v.swap.new.self differs v.swap.ensures.by_index, counted)
      | else-not-is_eq v ↦
          let same : alike x w ≡ true = sym told ∙ v.if-not-is_eq.false in
          rw (v.pairs-is, v.kept-is) (stays_behind alike old at.pairs at.kept at.at x w within c.index-row-at.is c.index-row-kept.is at.invariant.0 same, counted)
    ]

pub returns-clause-firsts : goal.returns-clause-firsts
returns-clause-firsts g c =
    let alike = λ (x y : g.row.K.Denot × g.row.V.Denot). is_eq (g.K.Ord.cmp x.0 y.0) in
    let at = c.loop-at in
    all_seen alike c.args.pairs.now at.pairs at.kept at.at (omega arith) at.invariant.0
