use Rattle.std.proofs.Common.{ℕ, Some, ◌∷◌, ◌++◌, map, sym, ap, ◌∙◌}
use Rattle.std.proofs.lemmas.List.{append_assoc}
use Rattle.std.proofs.lemmas.Result.{IfOk-weaker}
use Rattle.map_model.specs.Entries.{lookup}
use Rattle.tree_many.proofs.Nodes.{node_answers}
use Rattle.tree_many.proofs.sorted.+push_sorted.Goals as goal

pub returns-in-Empty : goal.returns-in-Empty
returns-in-Empty g t c =
    let told = ap (λ m. c.args.outs.now.items ++ map {B = ℕ × g.row.W-Out.Denot} (λ (e : g.row.M-Key.Denot × ℕ). (e.1, g.W.Answer.answer (lookup g.M.Key.Ord.cmp m e.0))) c.args.keys.now) c.in-Empty.ensures.top in
    IfOk-weaker c.push_missing.result _ _ (λ x h. h ∙ sym told) c.push_missing.ensures

pub returns-in-Block : goal.returns-in-Block
returns-in-Block g t c =
    let told = ap (λ m. c.args.outs.now.items ++ map {B = ℕ × g.row.W-Out.Denot} (λ (e : g.row.M-Key.Denot × ℕ). (e.1, g.W.Answer.answer (lookup g.M.Key.Ord.cmp m e.0))) c.args.keys.now) c.in-Block.ensures.top.entries_are in
    IfOk-weaker c.push_in_block.result _ _ (λ x h. h ∙ sym told) c.push_in_block.ensures

pub returns-in_ok-push_found-in-Node : goal.returns-in_ok-push_found-in-Node
returns-in_ok-push_found-in-Node g t c =
    let order = g.M.Key.Ord.cmp in
    let f = g.W.Answer.answer in
    let node = c.in-Node.ensures.top in
    let left = c.in-Node.left.now.entries in
    let key = c.in-Node.key.now in
    let val = c.in-Node.val.now in
    let right = c.in-Node.right.now.entries in
    let parts = c.divide_at-parts.result in
    let keys = c.divide_at-parts.ensures in
    let before = c.args.outs.now.items in
    let low = map {B = ℕ × g.row.W-Out.Denot} (λ (e : g.row.M-Key.Denot × ℕ). (e.1, f (lookup order left e.0))) parts.below.now in
    let own = map {B = ℕ × g.row.W-Out.Denot} (λ (e : g.row.M-Key.Denot × ℕ). (e.1, f (Some val))) parts.same.now in
    let high = map {B = ℕ × g.row.W-Out.Denot} (λ (e : g.row.M-Key.Denot × ℕ). (e.1, f (lookup order right e.0))) parts.above.now in
    let put = ap (λ x. (x ++ own) ++ high) c.in_ok-push_sorted-in-Node.ensures ∙ ap (λ x. x ++ high) (append_assoc before low own) ∙ append_assoc before (low ++ own) high in
    let all = node_answers g.met.M.Key.Ord.total f left key val right node.increasing parts.below.now parts.same.now parts.above.now keys.below keys.same keys.above in
    let told = ap (λ m. map {B = ℕ × g.row.W-Out.Denot} (λ (e : g.row.M-Key.Denot × ℕ). (e.1, f (lookup order m e.0))) c.args.keys.now) node.entries_are ∙ ap (map {B = ℕ × g.row.W-Out.Denot} (λ (e : g.row.M-Key.Denot × ℕ). (e.1, f (lookup order (left ++ (key, val) ∷ right) e.0)))) keys.whole in
    IfOk-weaker c.push_sorted-in-Node.result _ _ (λ x h. h ∙ ap (λ x. x ++ high) c.in_ok-push_found-in-Node.ensures ∙ put ∙ ap (λ x. before ++ x) (all ∙ sym told)) c.push_sorted-in-Node.ensures
