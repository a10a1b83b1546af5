use Rattle.std.proofs.Common.{◌≡◌, ◌+◌, ◌≤◌, false, sym, ap, ◌∙◌, ◌<◌, length, rules, ◌∷◌, ◌++◌, cond, refl, ap₂, arith}
use Rattle.std.specs.declared.cmp.Ordering.TheVariants.{Less}
use Rattle.map_model.proofs.Cuts.{length-around}
use Rattle.map_model.proofs.Keys.{AllKeys-filter, IsBefore-around, around}
use Rattle.std.specs.List.{filter}
use Rattle.std.proofs.lemmas.List.Elements.{filter-append}
use Rattle.std.proofs.lemmas.Result.{IfOk-weaker}
use Rattle.tree_filter.proofs.FoldTests.{tests_around}
use Rattle.tree_filter.proofs.Walks.{filter_sides}
use Rattle.tree_filter.proofs.filter.+filter_part.Goals as goal

pub returns-then-fails_whole-clause-kept : goal.returns-then-fails_whole-clause-kept
returns-then-fails_whole-clause-kept g t c = ap (λ x. x.entries) c.empty.ensures ∙ sym (c.fails_whole.ensures.none c.if-fails_whole.true)

pub join_kept-requires-clause-below : goal.join_kept-requires-clause-below
join_kept-requires-clause-below g t c =
    let cmp = g.M.Key.Ord.cmp in
    let p = λ (e : g.row.M-Key.Denot × g.row.M-Val.Denot). g.T.AugTest.admits c.args.test.now (g.M.Augment.Augment.base_of e.0 e.1) in
    let left = c.in-Node.left.now.entries in
    let sides = around cmp left c.in-Node.key.now c.in-Node.val.now c.in-Node.right.now.entries c.in-Node.ensures.top.increasing in
    rw c.in_ok-front-in-Node.ensures.kept (AllKeys-filter (λ k. cmp k c.in-Node.key.now ≡ Less) p left sides.lower)

pub join_kept-requires-clause-above : goal.join_kept-requires-clause-above
join_kept-requires-clause-above g t c =
    let cmp = g.M.Key.Ord.cmp in
    let p = λ (e : g.row.M-Key.Denot × g.row.M-Val.Denot). g.T.AugTest.admits c.args.test.now (g.M.Augment.Augment.base_of e.0 e.1) in
    let right = c.in-Node.right.now.entries in
    let sides = around cmp c.in-Node.left.now.entries c.in-Node.key.now c.in-Node.val.now right c.in-Node.ensures.top.increasing in
    rw c.in_ok-back-in-Node.ensures.kept (AllKeys-filter (λ k. cmp c.in-Node.key.now k ≡ Less) p right sides.upper)

pub join2-requires : goal.join2-requires
join2-requires g t c =
    let cmp = g.M.Key.Ord.cmp in
    let p = λ (e : g.row.M-Key.Denot × g.row.M-Val.Denot). g.T.AugTest.admits c.args.test.now (g.M.Augment.Augment.base_of e.0 e.1) in
    let left = c.in-Node.left.now.entries in
    let right = c.in-Node.right.now.entries in
    let key = c.in-Node.key.now in
    let sides = around cmp left key c.in-Node.val.now right c.in-Node.ensures.top.increasing in
    record {
      before = rw (c.in_ok-front-in-Node.ensures.kept, c.in_ok-back-in-Node.ensures.kept) (IsBefore-around g.met.M.Key.Ord.total (filter p left) key (filter p right) (AllKeys-filter (λ k. cmp k key ≡ Less) p left sides.lower) (AllKeys-filter (λ k. cmp key k ≡ Less) p right sides.upper));
    }

pub join_kept-requires-clause-whole : goal.join_kept-requires-clause-whole
join_kept-requires-clause-whole g t c =
    let p = λ (e : g.row.M-Key.Denot × g.row.M-Val.Denot). g.T.AugTest.admits c.args.test.now (g.M.Augment.Augment.base_of e.0 e.1) in
    let e : g.row.M-Key.Denot × g.row.M-Val.Denot = (c.in-Node.key.now, c.in-Node.val.now) in
    rw (c.in_ok-front-in-Node.ensures.kept, c.in_ok-back-in-Node.ensures.kept) (filter_sides p c.args.part.tree.now.entries c.in-Node.left.now.entries e c.in-Node.right.now.entries c.in-Node.ensures.top.entries_are)

pub filter_part-requires : goal.filter_part-requires
filter_part-requires g t c κs within =
    let around = length-around c.in-Node.left.now.entries (c.in-Node.key.now, c.in-Node.val.now) c.in-Node.right.now.entries in
    let shorter : length c.in-Node.left.now.entries < length c.args.part.tree.now.entries = omega (arith, ap length c.in-Node.ensures.top.entries_are, around) in
    search rules

pub filter_part-requires-in-Node : goal.filter_part-requires-in-Node
filter_part-requires-in-Node g t c κs within =
    let around = length-around c.in-Node.left.now.entries (c.in-Node.key.now, c.in-Node.val.now) c.in-Node.right.now.entries in
    let shorter : length c.in-Node.right.now.entries < length c.args.part.tree.now.entries = omega (arith, ap length c.in-Node.ensures.top.entries_are, around) in
    search rules

pub returns-in-Empty-clause-kept : goal.returns-in-Empty-clause-kept
returns-in-Empty-clause-kept g t c =
    let p = λ (e : g.row.M-Key.Denot × g.row.M-Val.Denot). g.T.AugTest.admits c.args.test.now (g.M.Augment.Augment.base_of e.0 e.1) in
    let whole : filter p c.args.part.tree.now.entries ≡ c.args.part.tree.now.entries = rw c.in-Empty.ensures.top refl in
    IfOk-weaker c.share.result _ _ (λ x h. ap (λ y. y.entries) h ∙ sym whole) c.share.ensures.value

pub returns-in-Block-clause-kept : goal.returns-in-Block-clause-kept
returns-in-Block-clause-kept g t c = rw c.in-Block.ensures.top.entries_are c.filter_leaf.ensures.kept

pub returns-in_err-back-in-Node-clause-cost : goal.returns-in_err-back-in-Node-clause-cost
returns-in_err-back-in-Node-clause-cost g t c =
    let last : c.filter_part-in-Node.new.tests ≤ c.filter_part-in-Node.new.tests + 1 = omega arith in
    let p = λ (e : g.row.M-Key.Denot × g.row.M-Val.Denot). g.T.AugTest.admits c.args.test.now (g.M.Augment.Augment.base_of e.0 e.1) in
    let node = c.in-Node.ensures.top in
    let tree = c.args.part.tree.now in
    let left = c.in-Node.left.now in
    let right = c.in-Node.right.now in
    let e : g.row.M-Key.Denot × g.row.M-Val.Denot = (c.in-Node.key.now, c.in-Node.val.now) in
    let some = c.fails_whole.ensures.some c.if-fails_whole.false in
    tests_around p tree.entries left.entries e right.entries node.entries_are g.M.Shape.BLOCK left.height right.height tree.height _ _ _ _ _ (omega (arith, node.height_is)) (omega (arith, node.height_is)) some
    c.fails_whole.ensures.cost c.in_ok-front-in-Node.ensures.cost c.in_err-back-in-Node.ensures.cost last

pub returns-then-not-passes-clause-kept : goal.returns-then-not-passes-clause-kept
returns-then-not-passes-clause-kept g t c =
    let p = λ (e : g.row.M-Key.Denot × g.row.M-Val.Denot). g.T.AugTest.admits c.args.test.now (g.M.Augment.Augment.base_of e.0 e.1) in
    let left = c.in-Node.left.now.entries in
    let right = c.in-Node.right.now.entries in
    let e : g.row.M-Key.Denot × g.row.M-Val.Denot = (c.in-Node.key.now, c.in-Node.val.now) in
    let fails : p e ≡ false = sym c.in_ok-passes-in-Node.ensures.value ∙ c.if-not-passes.true in
    let whole = ap (filter p) c.in-Node.ensures.top.entries_are ∙ filter-append p left (e ∷ right) ∙ ap (λ b. filter p left ++ cond b (e ∷ filter p right) (filter p right)) fails in
    IfOk-weaker c.join2.result _ _ (λ x h. h ∙ ap₂ (λ l r. l ++ r) c.in_ok-front-in-Node.ensures.kept c.in_ok-back-in-Node.ensures.kept ∙ sym whole) c.join2.ensures.entries

pub returns-in_err-passes-in-Node-clause-cost : goal.returns-in_err-passes-in-Node-clause-cost
returns-in_err-passes-in-Node-clause-cost g t c =
    let p = λ (e : g.row.M-Key.Denot × g.row.M-Val.Denot). g.T.AugTest.admits c.args.test.now (g.M.Augment.Augment.base_of e.0 e.1) in
    let node = c.in-Node.ensures.top in
    let tree = c.args.part.tree.now in
    let left = c.in-Node.left.now in
    let right = c.in-Node.right.now in
    let e : g.row.M-Key.Denot × g.row.M-Val.Denot = (c.in-Node.key.now, c.in-Node.val.now) in
    let some = c.fails_whole.ensures.some c.if-fails_whole.false in
    tests_around p tree.entries left.entries e right.entries node.entries_are g.M.Shape.BLOCK left.height right.height tree.height _ _ _ _ _ (omega (arith, node.height_is)) (omega (arith, node.height_is)) some
    c.fails_whole.ensures.cost c.in_ok-front-in-Node.ensures.cost c.in_ok-back-in-Node.ensures.cost c.in_err-passes-in-Node.ensures.cost

pub returns-then-not-passes-clause-cost : goal.returns-then-not-passes-clause-cost
returns-then-not-passes-clause-cost g t c =
    let p = λ (e : g.row.M-Key.Denot × g.row.M-Val.Denot). g.T.AugTest.admits c.args.test.now (g.M.Augment.Augment.base_of e.0 e.1) in
    let node = c.in-Node.ensures.top in
    let tree = c.args.part.tree.now in
    let left = c.in-Node.left.now in
    let right = c.in-Node.right.now in
    let e : g.row.M-Key.Denot × g.row.M-Val.Denot = (c.in-Node.key.now, c.in-Node.val.now) in
    let some = c.fails_whole.ensures.some c.if-fails_whole.false in
    tests_around p tree.entries left.entries e right.entries node.entries_are g.M.Shape.BLOCK left.height right.height tree.height _ _ _ _ _ (omega (arith, node.height_is)) (omega (arith, node.height_is)) some
    c.fails_whole.ensures.cost c.in_ok-front-in-Node.ensures.cost c.in_ok-back-in-Node.ensures.cost c.in_ok-passes-in-Node.ensures.cost

pub returns-else-not-passes-clause-cost : goal.returns-else-not-passes-clause-cost
returns-else-not-passes-clause-cost g t c =
    let p = λ (e : g.row.M-Key.Denot × g.row.M-Val.Denot). g.T.AugTest.admits c.args.test.now (g.M.Augment.Augment.base_of e.0 e.1) in
    let node = c.in-Node.ensures.top in
    let tree = c.args.part.tree.now in
    let left = c.in-Node.left.now in
    let right = c.in-Node.right.now in
    let e : g.row.M-Key.Denot × g.row.M-Val.Denot = (c.in-Node.key.now, c.in-Node.val.now) in
    let some = c.fails_whole.ensures.some c.if-fails_whole.false in
    tests_around p tree.entries left.entries e right.entries node.entries_are g.M.Shape.BLOCK left.height right.height tree.height _ _ _ _ _ (omega (arith, node.height_is)) (omega (arith, node.height_is)) some
    c.fails_whole.ensures.cost c.in_ok-front-in-Node.ensures.cost c.in_ok-back-in-Node.ensures.cost c.in_ok-passes-in-Node.ensures.cost
