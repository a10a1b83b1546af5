use Rattle.std.proofs.Common.{◌≡◌, ◌∷◌, ◌++◌, refl, sym, ap, ◌∙◌, ◌<◌, length, rules}
use Rattle.std.proofs.lemmas.Result.{IfOk-weaker}
use Rattle.std.specs.declared.cmp.Ordering.TheVariants.{Less}
use Rattle.map_model.proofs.Keys.{AllKeys-filter, around}
use Rattle.tree_query.specs.Within.{in_range, within}
use Rattle.tree_query.proofs.Sides.{left_shorter, right_shorter}
use Rattle.tree_query.proofs.Ranges.{within-whole, within-before, within-after, within-inside}
use Rattle.tree_query.proofs.parts.+keep_span.Goals as goal

pub returns-then-is_all : goal.returns-then-is_all
returns-then-is_all g t c =
    let whole = within-whole g.M.Key.Ord.cmp c.args.span.range c.args.span.tree.now.entries (sym c.is_all.ensures ∙ c.if-is_all.true) in
    IfOk-weaker c.share.result _ _ (λ x h. ap (λ y. y.entries) h ∙ sym whole) c.share.ensures.value

pub returns-then-ends_before : goal.returns-then-ends_before
returns-then-ends_before g t c =
    let node = c.in-Node.ensures.top in
    let part = ap (within g.M.Key.Ord.cmp c.args.span.range) node.entries_are ∙ within-before g.met.M.Key.Ord.total c.args.span.range c.in-Node.left.now.entries c.in-Node.key.now c.in-Node.val.now c.in-Node.right.now.entries node.increasing (sym c.ends_before.ensures.value ∙ c.if-ends_before.true) in
    IfOk-weaker c.keep_span.result _ _ (λ x h. h ∙ sym part) c.keep_span.ensures

pub returns-then-begins_after : goal.returns-then-begins_after
returns-then-begins_after g t c =
    let node = c.in-Node.ensures.top in
    let part = ap (within g.M.Key.Ord.cmp c.args.span.range) node.entries_are ∙ within-after g.met.M.Key.Ord.total c.args.span.range c.in-Node.left.now.entries c.in-Node.key.now c.in-Node.val.now c.in-Node.right.now.entries node.increasing (sym c.begins_after.ensures.value ∙ c.if-begins_after.true) in
    IfOk-weaker c.keep_span-then-begins_after.result _ _ (λ x h. h ∙ sym part) c.keep_span-then-begins_after.ensures

pub join_lent-requires-clause-below : goal.join_lent-requires-clause-below
join_lent-requires-clause-below g t c =
    let cmp = g.M.Key.Ord.cmp in
    let sides = around cmp c.in-Node.left.now.entries c.in-Node.key.now c.in-Node.val.now c.in-Node.right.now.entries c.in-Node.ensures.top.increasing in
    rw c.in_ok-front-in-Node.ensures (AllKeys-filter (λ k. cmp k c.in-Node.key.now ≡ Less) (λ e. in_range cmp c.left_part.result e.0) c.in-Node.left.now.entries sides.lower)

pub join_lent-requires-clause-above : goal.join_lent-requires-clause-above
join_lent-requires-clause-above g t c =
    let cmp = g.M.Key.Ord.cmp in
    let sides = around cmp c.in-Node.left.now.entries c.in-Node.key.now c.in-Node.val.now c.in-Node.right.now.entries c.in-Node.ensures.top.increasing in
    rw c.in_ok-back-in-Node.ensures (AllKeys-filter (λ k. cmp c.in-Node.key.now k ≡ Less) (λ e. in_range cmp c.right_part.result e.0) c.in-Node.right.now.entries sides.upper)

pub returns-in_ok-back-in-Node : goal.returns-in_ok-back-in-Node
returns-in_ok-back-in-Node g t c =
    let cmp = g.M.Key.Ord.cmp in
    let range = c.args.span.range in
    let node = c.in-Node.ensures.top in
    let left = c.in-Node.left.now.entries in
    let right = c.in-Node.right.now.entries in
    let front = c.in_ok-front-in-Node.ensures ∙ ap (λ r. within cmp r left) c.left_part.ensures in
    let back = c.in_ok-back-in-Node.ensures ∙ ap (λ r. within cmp r right) c.right_part.ensures in
    let cut = ap (within cmp range) node.entries_are ∙ within-inside g.met.M.Key.Ord.total range left c.in-Node.key.now c.in-Node.val.now right node.increasing (sym c.ends_before.ensures.value ∙ c.if-ends_before.false) (sym c.begins_after.ensures.value ∙ c.if-begins_after.false) in
    let joined : c.in_ok-front-in-Node.front.entries ++ (c.in-Node.key.now, c.in-Node.val.now) ∷ c.in_ok-back-in-Node.back.entries ≡ within cmp range c.args.span.tree.now.entries = rw (front, back) (sym cut) in
    IfOk-weaker c.join_lent.result _ _ (λ x h. h ∙ joined) c.join_lent.ensures.entries

pub returns-in-Empty : goal.returns-in-Empty
returns-in-Empty g t c =
    let cmp = g.M.Key.Ord.cmp in
    let whole : within cmp c.args.span.range c.args.span.tree.now.entries ≡ c.args.span.tree.now.entries = rw c.in-Empty.ensures.top refl in
    IfOk-weaker c.share-in-Empty.result _ _ (λ x h. ap (λ y. y.entries) h ∙ sym whole) c.share-in-Empty.ensures.value

pub returns-in-Block : goal.returns-in-Block
returns-in-Block g t c = rw c.in-Block.ensures.top.entries_are c.keep_leaf.ensures

pub keep_span-requires : goal.keep_span-requires
keep_span-requires g t c κs within =
    let shorter : length c.in-Node.left.now.entries < length c.args.span.tree.now.entries = left_shorter _ _ _ _ c.in-Node.ensures.top.entries_are in
    search rules

pub keep_span-requires-then-begins_after : goal.keep_span-requires-then-begins_after
keep_span-requires-then-begins_after g t c κs within =
    let shorter : length c.in-Node.right.now.entries < length c.args.span.tree.now.entries = right_shorter _ _ _ _ c.in-Node.ensures.top.entries_are in
    search rules

pub keep_span-requires-in-Node : goal.keep_span-requires-in-Node
keep_span-requires-in-Node g t c κs within =
    let shorter : length c.in-Node.left.now.entries < length c.args.span.tree.now.entries = left_shorter _ _ _ _ c.in-Node.ensures.top.entries_are in
    search rules

pub keep_span-requires-in-Node-2 : goal.keep_span-requires-in-Node-2
keep_span-requires-in-Node-2 g t c κs within =
    let shorter : length c.in-Node.right.now.entries < length c.args.span.tree.now.entries = right_shorter _ _ _ _ c.in-Node.ensures.top.entries_are in
    search rules
