use Rattle.std.proofs.Common.{map, take, drop, ap, ◌∙◌, sym, subst, ◌++◌, take-append-drop}
use Rattle.aug_monoid.specs.Exact.{pair64_cmp}
use Rattle.map_model.specs.Entries.{IsIncreasing}
use Rattle.map_model.proofs.Keys.{IsIncreasing-front}
use Rattle.row_leaf.specs.Code.{place_entry}
use Rattle.row_leaf.proofs.Views.{rise, front_same}
use Rattle.row_leaf.proofs.leaf.RowLeafLeafPair64U64.front.Goals as goal

pub invariant_of-result : goal.invariant_of-result
invariant_of-result c =
    let entries = map place_entry c.self.inside.gaps in
    let whole : IsIncreasing pair64_cmp (take c.args.at entries ++ drop c.args.at entries) = subst (IsIncreasing pair64_cmp) (sym (take-append-drop c.args.at entries)) c.self.invariant in
    rise _ _ _ c.in_ok-gaps.ensures (front_same _ c.args.at) (IsIncreasing-front pair64_cmp (take c.args.at entries) (drop c.args.at entries) whole)

pub returns : goal.returns
returns c = ap (map place_entry) c.in_ok-gaps.ensures ∙ front_same _ c.args.at ∙ ap (take c.args.at) c.self.view_is
