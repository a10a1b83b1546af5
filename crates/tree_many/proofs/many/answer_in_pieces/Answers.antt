use Rattle.std.proofs.Common.{◌≡◌, ◌++◌, map, sym, ap, subst, ◌∙◌, append_assoc}
use Rattle.std.specs.List.Sorted.{IsSorted}
use Rattle.std.specs.Ordering.{is_lt}
use Rattle.std.proofs.lemmas.List.{append-nil, map-append, nil_from_length}
use Rattle.map_model.specs.Entries.{lookup}
use Rattle.tree_many.proofs.Parted.{sorted_drop}
use Rattle.tree_many.proofs.many.answer_in_pieces.Goals as goal

pub loop-rest-preserved : goal.loop-rest-preserved
loop-rest-preserved g c =
    let order = g.M.Key.Ord.cmp in
    let answer : g.row.M-Key.Denot → g.row.W-Out.Denot = λ k. g.W.Answer.answer (lookup order c.args.tree.now.entries k) in
    let outs = c.loop-rest.outs.items in
    let rest = c.loop-rest.rest.now in
    let piece = c.split_at.result.0.now in
    let others = c.split_at.result.1.now in (
      subst (IsSorted order) (sym c.split_at.ensures.back) (sorted_drop (λ x y. is_lt (order x y)) rest c.min.result c.loop-rest.invariant.0),
      ap (λ x. x ++ map answer others) c.in_ok-push_piece.ensures
          ∙ append_assoc outs (map answer piece) (map answer others)
          ∙ ap (λ x. outs ++ x) (sym (map-append answer piece others))
          ∙ ap (λ x. outs ++ map answer x) (sym c.split_at.ensures.by_index.0)
          ∙ c.loop-rest.invariant.1,
    )
