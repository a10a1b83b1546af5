use Rattle.std.proofs.Common.{◌≡◌, ap, ◌∙◌}
use Rattle.map_folds.specs.declared.summary.Summary.{Summary}
use Rattle.map_handle.proofs.Summed.{summary_of, summary_totals}
use Rattle.map_handle.proofs.folding.all_totals.Goals as goal

pub returns-in-Some : goal.returns-in-Some
returns-in-Some c =
    let whole : c.in-Some.all.now ≡ summary_of c.args.kept.now = c.in-Some.ensures.fold ∙ ap summary_of c.kept.view_is in
    ap (λ (s : Summary). s.totals) whole ∙ summary_totals c.args.kept.now
