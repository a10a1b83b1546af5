use Rattle.std.proofs.Common.{◌++◌, ap₂, ◌∙◌}
use Rattle.std.proofs.lemmas.Result.{IfOk-weaker}
use Rattle.pac_seq.proofs.Past.{drop_past}
use Rattle.pac_seq.proofs.seq.SeqOver.remove.Goals as goal

pub returns : goal.returns
returns g c =
    let back = c.in_ok-back.ensures ∙ drop_past c.args.self.now.items c.args.at _ c.saturating_add.ensures (rw c.size-size.ensures.value at c.size-size.ensures.fits) in
    IfOk-weaker c.append.result _ _ (λ seq is. is ∙ ap₂ (λ x y. x ++ y) c.in_ok-front.ensures back) c.append.ensures
