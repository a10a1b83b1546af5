use Rattle.std.proofs.Common.{◌≡◌, ℕ, ◌++◌, map, sym, ap, subst, ◌∙◌}
use Rattle.std.specs.List.Sorted.{IsSortedByKey}
use Rattle.std.proofs.lemmas.Result.{IfOk-weaker}
use Rattle.map_model.specs.Entries.{lookup}
use Rattle.tree_many.proofs.InOrder.{answers_in_order, sorted_placed}
use Rattle.tree_many.proofs.many.push_piece.Goals as goal

pub answers_of-requires : goal.answers_of-requires
answers_of-requires g c =
    subst (IsSortedByKey (λ (e : g.row.M-Key.Denot × ℕ). e.0) g.M.Key.Ord.cmp) (sym (c.deref.ensures.value ∙ c.in_ok-places.ensures)) (sorted_placed g.M.Key.Ord.cmp c.args.keys.now c.requires)

pub returns : goal.returns
returns g c =
    let f : g.row.M-Key.Denot → g.row.W-Out.Denot = λ k. g.W.Answer.answer (lookup g.M.Key.Ord.cmp c.args.tree.now.entries k) in
    let answer : g.row.M-Key.Denot × ℕ → ℕ × g.row.W-Out.Denot = λ e. (e.1, f e.0) in
    let answered = c.in_ok-answers.ensures ∙ ap (map answer) (c.deref.ensures.value ∙ c.in_ok-places.ensures) in
    let told = ap (map {A = ℕ × g.row.W-Out.Denot} (λ e. e.1)) answered ∙ answers_in_order f 0 c.args.keys.now in
    IfOk-weaker c.push_values.result _ _ (λ _ h. h ∙ ap (λ xs. c.args.outs.now.items ++ xs) told) c.push_values.ensures
