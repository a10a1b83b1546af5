use Rattle.std.proofs.Common.{◌==◌, ap, ap₂, ◌∙◌}
use Rattle.std.specs.List.{list_any}
use Rattle.std.proofs.lemmas.Result.{IfOk-weaker}
use Rattle.put_runs.specs.Places.{counted}
use Rattle.put_runs.proofs.NewKeys.{counted-marks}
use Rattle.put_runs.proofs.putting.sizes_of_puts.Goals as goal

pub returns : goal.returns
returns c =
    let entries = c.args.entries.now in
    let marks = c.in_ok-marks.marks.items in
    IfOk-weaker c.counts.result _ _ (λ sizes is.
    is
    ∙ ap₂ counted c.size-size.ensures.value c.deref-2.ensures.value
    ∙ counted-marks entries c.args.firsts.now c.args.map.now.entries c.requires marks c.size-size.ensures.increasing c.in_ok-marks.ensures.len (λ p h.
    c.in_ok-marks.ensures.set p h ∙ ap (λ new. list_any (λ e. e.1 == p) new) (c.deref.ensures.value ∙ c.in_ok-new.ensures))) c.counts.ensures
