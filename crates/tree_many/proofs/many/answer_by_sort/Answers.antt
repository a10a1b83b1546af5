use Rattle.std.proofs.Common.{ℕ, map, ap, ◌∙◌}
use Rattle.map_model.specs.Entries.{lookup}
use Rattle.tree_many.proofs.Scattered.{put_all, put_to_places}
use Rattle.tree_many.proofs.many.answer_by_sort.Goals as goal

pub returns : goal.returns
returns g c =
    let f : g.row.M-Key.Denot → g.row.W-Out.Denot = λ k. g.W.Answer.answer (lookup g.M.Key.Ord.cmp c.args.tree.now.entries k) in
    let answer : g.row.M-Key.Denot × ℕ → ℕ × g.row.W-Out.Denot = λ e. (e.1, f e.0) in
    let answered = c.in_ok-answers.ensures ∙ ap (map answer) c.deref.ensures.value in
    c.put_back.ensures
    ∙ ap (put_all c.in_ok-blanks.blanks.items) answered
    ∙ put_to_places g.met.M.Key.Ord.total f c.args.keys.now c.in_ok-sorted.sorted.items c.in_ok-sorted.ensures.stable c.in_ok-blanks.blanks.items c.in_ok-blanks.ensures
