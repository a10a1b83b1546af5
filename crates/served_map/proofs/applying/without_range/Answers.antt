use Rattle.std.proofs.Common.{ap, sym, ◌∙◌, ap₂, ◌++◌, arith}
use Rattle.std.proofs.lemmas.Result.{IfOk-weaker}
use Rattle.served_map.proofs.Wipes.{wiped_none, wiped_sides}
use Rattle.served_map.proofs.applying.without_range.Goals as goal

pub returns-then-hi-lo : goal.returns-then-hi-lo
returns-then-hi-lo g c =
    IfOk-weaker c.share.result _ _ (λ less same. ap (λ m. m.entries) same ∙ sym (wiped_none c.args.map.now.entries c.args.lo c.args.hi (omega (arith, c.if-hi-lo.true)))) c.share.ensures.value

pub returns : goal.returns
returns g c =
    IfOk-weaker c.join2.result _ _ (λ less is.
    is ∙ ap₂ (λ l r. l ++ r) c.in_ok-below.ensures c.in_ok-above.ensures
    ∙ sym (wiped_sides c.args.map.now.entries c.args.lo c.args.hi (omega (arith, c.if-hi-lo.false)) c.size-rises.ensures.increasing)) c.join2.ensures.entries
