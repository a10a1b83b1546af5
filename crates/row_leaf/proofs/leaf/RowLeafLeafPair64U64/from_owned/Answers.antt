use Rattle.std.proofs.Common.{map, ap, ◌∙◌}
use Rattle.row_leaf.specs.Code.{place_entry}
use Rattle.row_leaf.specs.CodeLaws.{places_again}
use Rattle.row_leaf.proofs.Views.{rise}
use Rattle.row_leaf.proofs.leaf.RowLeafLeafPair64U64.from_owned.Goals as goal

pub invariant_of-result : goal.invariant_of-result
invariant_of-result c = rise _ _ _ (rw c.deref.ensures.value at c.in_ok-gaps.ensures) (places_again c.args.from.items) c.requires.increasing

pub returns : goal.returns
returns c = ap (map place_entry) (rw c.deref.ensures.value at c.in_ok-gaps.ensures) ∙ places_again c.args.from.items
