use Rattle.std.proofs.Common.{◌≡◌, ◌<◌, [], ◌∷◌, ◌++◌, length, take, drop, sym, ap, ◌∙◌, append_assoc, append-nil, take-append-drop, refl, rules}
use Rattle.std.proofs.lemmas.Result.{IfOk-weaker}
use Rattle.map_model.proofs.Prefixes.{front_same, front_then, front_further}
use Rattle.tree_shape.proofs.Nodes.{left_shorter, right_shorter}
use Rattle.tree_shape.proofs.tree.Tree.+push_entries.Goals as goal

pub returns-in_ok-push_shared-in-Node-clause-kept : goal.returns-in_ok-push_shared-in-Node-clause-kept
returns-in_ok-push_shared-in-Node-clause-kept g t c =
    let before = c.args.out.now.items in
    let pushed = c.push_shared.new.out.items in
    let left : take (length before) pushed ≡ before = front_then before c.push_entries.new.out.items pushed _ c.in_ok-push_entries-in-Node.ensures.kept (c.in_ok-push_shared-in-Node.ensures.appended) in
    let whole : pushed ≡ before ++ drop (length before) pushed = sym (take-append-drop (length before) pushed) ∙ ap (λ front. front ++ drop (length before) pushed) left in
    front_further before pushed c.push_entries-in-Node.new.out.items (drop (length before) pushed) whole c.push_entries-in-Node.ensures.kept

pub returns-in_err-push_shared-in-Node-clause-kept : goal.returns-in_err-push_shared-in-Node-clause-kept
returns-in_err-push_shared-in-Node-clause-kept g t c =
    let before = c.args.out.now.items in
    let pushed : c.push_shared.new.out.items ≡ c.push_entries.new.out.items = c.in_err-push_shared-in-Node.ensures.kept in
    ap (take (length before)) pushed ∙ c.in_ok-push_entries-in-Node.ensures.kept

pub returns-in-Empty-clause-kept : goal.returns-in-Empty-clause-kept
returns-in-Empty-clause-kept g t c = front_same c.args.out.now.items c.args.out.now.items refl

pub returns-in-Empty-clause-appended : goal.returns-in-Empty-clause-appended
returns-in-Empty-clause-appended g t c = rw c.in-Empty.ensures.top (sym (append-nil c.args.out.now.items))

pub returns-in_ok-push_shared-in-Node-clause-appended : goal.returns-in_ok-push_shared-in-Node-clause-appended
returns-in_ok-push_shared-in-Node-clause-appended g t c =
    let before = c.args.out.now.items in
    let left = c.in-Node.left.now.entries in
    let right = c.in-Node.right.now.entries in
    let entry : g.row.M-Key.Denot × g.row.M-Val.Denot = (c.in-Node.key.now, c.in-Node.val.now) in
    let whole : c.push_shared.new.out.items ++ right ≡ before ++ c.args.self.now.entries =
    ap (λ x. x ++ right) (c.in_ok-push_shared-in-Node.ensures.appended ∙ ap (λ x. x ++ entry ∷ []) c.in_ok-push_entries-in-Node.ensures.appended)
    ∙ append_assoc (before ++ left) (entry ∷ []) right ∙ append_assoc before left (entry ∷ right) ∙ ap (λ x. before ++ x) (sym c.in-Node.ensures.top.entries_are) in
    IfOk-weaker c.push_entries-in-Node.result _ _ (λ x h. h ∙ whole) c.push_entries-in-Node.ensures.appended

pub push_entries-requires : goal.push_entries-requires
push_entries-requires g t c κs within =
    let shorter : length c.in-Node.left.now.entries < length c.args.self.now.entries = left_shorter _ _ _ _ c.in-Node.ensures.top.entries_are in
    search rules

pub push_entries-requires-in-Node : goal.push_entries-requires-in-Node
push_entries-requires-in-Node g t c κs within =
    let shorter : length c.in-Node.right.now.entries < length c.args.self.now.entries = right_shorter _ _ _ _ c.in-Node.ensures.top.entries_are in
    search rules

pub returns-in-Block-clause-appended : goal.returns-in-Block-clause-appended
returns-in-Block-clause-appended g t c = rw c.in-Block.ensures.top.entries_are c.share_into.ensures.appended

pub returns-in_err-push_entries-in-Node-clause-kept : goal.returns-in_err-push_entries-in-Node-clause-kept
returns-in_err-push_entries-in-Node-clause-kept g t c = c.in_err-push_entries-in-Node.ensures.kept
