use Rattle.std.proofs.Common.{ℕ, List, ◌≡◌, drop, ap, subst, ◌∙◌}
use Rattle.std.proofs.lemmas.Cmp.{nat_cmp_total}
use Rattle.std.specs.Ordering.{nat_cmp}
use Rattle.map_model.proofs.Places.{right_of-drop}
use Rattle.map_model.specs.Entries.{IsIncreasing}
use Rattle.map_model.specs.Parts.{rank}
use Rattle.map_handle.specs.Arrays.{filled}
use Rattle.map_handle.proofs.filling.write_from_key.Goals as goal

pub returns-in-Ok : goal.returns-in-Ok
returns-in-Ok c =
    let rises : IsIncreasing nat_cmp c.args.kept.now = subst (IsIncreasing nat_cmp) c.kept.view_is c.len-size.ensures.increasing in
    let rest : c.in-Ok.rest ≡ drop (rank nat_cmp c.args.kept.now c.args.from_key) c.args.kept.now = c.in-Ok.ensures ∙ right_of-drop nat_cmp_total c.args.kept.now c.args.from_key rises in
    c.write_all.ensures ∙ ap (λ (m : List (ℕ × ℕ)). filled m c.args.keys.now c.args.vals.now) rest
