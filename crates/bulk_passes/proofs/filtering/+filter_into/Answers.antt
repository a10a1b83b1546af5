use Rattle.std.specs.List.{filter}
use Rattle.std.proofs.Common.{◌≡◌, [], ◌∷◌, ◌++◌, sym, ap, ◌∙◌, append_assoc, arith, length}
use Rattle.std.proofs.lemmas.List.Elements.{filter-append}
use Rattle.std.proofs.lemmas.Result.{IfOk-weaker}
use Rattle.map_model.proofs.Cuts.{length-around}
use Rattle.bulk_passes.proofs.filtering.+filter_into.Goals as goal

pub returns-in-Block-clause-value : goal.returns-in-Block-clause-value
returns-in-Block-clause-value g t c = rw c.in-Block.ensures.top.entries_are c.filter_leaf.ensures.value

pub returns-in-Block-clause-cost : goal.returns-in-Block-clause-cost
returns-in-Block-clause-cost g t c = rw c.in-Block.ensures.top.entries_are c.filter_leaf.ensures.cost

pub returns-in_ok-push_passing-in-Node-clause-value : goal.returns-in_ok-push_passing-in-Node-clause-value
returns-in_ok-push_passing-in-Node-clause-value g t c =
    let p = λ (e : g.row.M-Key.Denot × g.row.M-Val.Denot). g.T.Test.passes c.args.test.now e.0 e.1 in
    let before = c.args.out.now.items in
    let left = c.in-Node.left.now.entries in
    let right = c.in-Node.right.now.entries in
    let entry : g.row.M-Key.Denot × g.row.M-Val.Denot = (c.in-Node.key.now, c.in-Node.val.now) in
    let parts : filter p c.args.part.tree.now.entries ≡ filter p left ++ (filter p (entry ∷ []) ++ filter p right) =
    ap (filter p) c.in-Node.ensures.top.entries_are ∙ filter-append p left (entry ∷ right) ∙ ap (λ x. filter p left ++ x) (filter-append p (entry ∷ []) right) in
    let whole : c.push_passing.new.out.items ++ filter p right ≡ before ++ filter p c.args.part.tree.now.entries =
    ap (λ x. x ++ filter p right) (c.in_ok-push_passing-in-Node.ensures.value ∙ ap (λ x. x ++ filter p (entry ∷ [])) c.in_ok-filter_into-in-Node.ensures.value)
    ∙ append_assoc (before ++ filter p left) (filter p (entry ∷ [])) (filter p right) ∙ append_assoc before (filter p left) (filter p (entry ∷ []) ++ filter p right) ∙ ap (λ x. before ++ x) (sym parts) in
    IfOk-weaker c.filter_into-in-Node.result _ _ (λ x h. h ∙ whole) c.filter_into-in-Node.ensures.value

pub returns-in_ok-push_passing-in-Node-clause-cost : goal.returns-in_ok-push_passing-in-Node-clause-cost
returns-in_ok-push_passing-in-Node-clause-cost g t c =
    let whole = ap length c.in-Node.ensures.top.entries_are ∙ length-around c.in-Node.left.now.entries (c.in-Node.key.now, c.in-Node.val.now) c.in-Node.right.now.entries in
    omega (arith, whole, c.in_ok-filter_into-in-Node.ensures.cost, c.in_ok-push_passing-in-Node.ensures.cost, c.filter_into-in-Node.ensures.cost)

pub returns-in_err-filter_into-in-Node-clause-cost : goal.returns-in_err-filter_into-in-Node-clause-cost
returns-in_err-filter_into-in-Node-clause-cost g t c =
    let whole = ap length c.in-Node.ensures.top.entries_are ∙ length-around c.in-Node.left.now.entries (c.in-Node.key.now, c.in-Node.val.now) c.in-Node.right.now.entries in
    omega (arith, whole, c.in_err-filter_into-in-Node.ensures.cost)

pub returns-in_err-push_passing-in-Node-clause-cost : goal.returns-in_err-push_passing-in-Node-clause-cost
returns-in_err-push_passing-in-Node-clause-cost g t c =
    let whole = ap length c.in-Node.ensures.top.entries_are ∙ length-around c.in-Node.left.now.entries (c.in-Node.key.now, c.in-Node.val.now) c.in-Node.right.now.entries in
    omega (arith, whole, c.in_ok-filter_into-in-Node.ensures.cost, c.in_err-push_passing-in-Node.ensures.cost)
