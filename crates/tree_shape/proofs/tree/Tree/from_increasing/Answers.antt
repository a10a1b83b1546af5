use Rattle.std.proofs.Common.{◌*◌, ◌++◌, [], map, ap, sym, ◌∙◌}
use Rattle.std.proofs.lemmas.List.{append-nil}
use Rattle.tree_shape.specs.LeafLists.{leaf_lists}
use Rattle.tree_shape.proofs.tree.Tree.from_increasing.Goals as goal

pub take_over-requires-clause-theirs : goal.take_over-requires-clause-theirs
take_over-requires-clause-theirs g c = record {
  rest = [];
  joined =
      ap (map g.M.Leaf.Leaf.entries) c.into_iter.ensures.rest ∙ c.in_ok-push_leaves.ensures
      ∙ ap (λ l. map g.M.Leaf.Leaf.entries l ++ leaf_lists (2 * g.M.Shape.BLOCK) c.args.from.now) c.new-leaves.ensures.items
      ∙ sym (append-nil (leaf_lists (2 * g.M.Shape.BLOCK) c.args.from.now));
}
