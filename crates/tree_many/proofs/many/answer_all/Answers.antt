use Rattle.tree_many.proofs.InOrder.{sorted_from_answer}
use Rattle.tree_many.proofs.many.answer_all.Goals as goal

pub answer_in_pieces-requires : goal.answer_in_pieces-requires
answer_in_pieces-requires g c =
    sorted_from_answer g.met.M.Key.Ord.total g.M.Key.PartialOrd.partial_cmp g.met.M.Key.Ord.matches_partial_cmp c.args.keys.now c.is_sorted.result c.is_sorted.ensures.cases c.if-is_sorted.true
