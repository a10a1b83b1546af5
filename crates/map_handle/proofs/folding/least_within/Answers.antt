use Rattle.std.proofs.Common.{◌≡◌, ℕ, List, Some, length, ap, ◌∙◌, arith}
use Rattle.std.specs.Ordering.{nat_cmp}
use Rattle.map_folds.specs.declared.summary.Summary.{Summary}
use Rattle.map_model.specs.Parts.{slice}
use Rattle.map_handle.proofs.Summed.{some_least, summary_of}
use Rattle.map_handle.proofs.folding.least_within.Goals as goal

pub returns : goal.returns
returns c =
    let found = slice nat_cmp c.args.kept.now c.args.lo c.args.hi in
    let part : c.in-Ok.part ≡ summary_of found = c.in-Ok.ensures.value ∙ ap (λ (m : List (ℕ × ℕ)). summary_of (slice nat_cmp m c.args.lo c.args.hi)) c.kept.view_is in
    let counted : c.count_within.result ≡ length found = c.count_within.ensures in
    ap (λ (s : Summary). Some s.least) part ∙ some_least found (λ is. omega (arith, ap length is, counted))
