use Rattle.std.proofs.Common.{◌≡◌, Some, ap, ◌∙◌}
use Rattle.map_folds.specs.declared.summary.Summary.{Summary}
use Rattle.map_handle.proofs.Summed.{some_least, summary_of}
use Rattle.map_handle.proofs.folding.least_of_all.Goals as goal

pub returns : goal.returns
returns c =
    let whole : c.in_ok-all.all.now ≡ summary_of c.args.kept.now = c.in_ok-all.ensures.fold ∙ ap summary_of c.kept.view_is in
    ap (λ (s : Summary). Some s.least) whole ∙ some_least c.args.kept.now (λ is. let no = c.in_ok-all.ensures.none.1 (c.kept.view_is ∙ is) in cc)
