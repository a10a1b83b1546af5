use Rattle.std.proofs.Common.{◌+◌, ◌++◌, map, take, drop, ap, ◌∙◌}
use Rattle.aug_monoid.specs.Exact.{pair64_cmp}
use Rattle.map_model.proofs.Cuts.{IsIncreasing-without}
use Rattle.row_leaf.specs.Code.{place_entry}
use Rattle.row_leaf.proofs.Views.{rise, without_same}
use Rattle.row_leaf.proofs.leaf.RowLeafLeafPair64U64.without.Goals as goal

pub invariant_of-result : goal.invariant_of-result
invariant_of-result c = rise _ _ _ c.in_ok-gaps.ensures (without_same _ c.args.at) (IsIncreasing-without pair64_cmp c.args.at (map place_entry c.self.inside.gaps) c.self.invariant)

pub returns : goal.returns
returns c = ap (map place_entry) c.in_ok-gaps.ensures ∙ without_same _ c.args.at ∙ ap (λ es. take c.args.at es ++ drop (c.args.at + 1) es) c.self.view_is
