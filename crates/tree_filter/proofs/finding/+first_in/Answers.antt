use Rattle.std.proofs.Common.{◌≡◌, [], Some, sym, ap, ◌∙◌, ◌<◌, length, rules, refl, arith}
use Rattle.std.specs.List.{filter}
use Rattle.std.proofs.lemmas.Result.{IfOk-weaker}
use Rattle.map_model.proofs.Cuts.{length-around}
use Rattle.tree_filter.proofs.Firsts.{first_here, first_left, first_right, none_first}
use Rattle.tree_filter.proofs.FoldTests.{none_missed}
use Rattle.tree_filter.proofs.finding.+first_in.Goals as goal

pub returns-in-Some-clause-value : goal.returns-in-Some-clause-value
returns-in-Some-clause-value g t c =
    let p = λ (e : g.row.M-Key.Denot × g.row.M-Val.Denot). g.T.AugTest.admits c.args.test.now (g.M.Augment.Augment.base_of e.0 e.1) in
    let left = c.in-Node.left.now.entries in
    let e : g.row.M-Key.Denot × g.row.M-Val.Denot = (c.in-Node.key.now, c.in-Node.val.now) in
    sym (first_left p c.args.part.tree.now.entries left e c.in-Node.right.now.entries c.in-Node.ensures.top.entries_are c.in-Some.entry (sym c.in_ok-entry-in-Node.ensures.value ∙ c.in-Some.is))

pub returns-then-branch-clause-value : goal.returns-then-branch-clause-value
returns-then-branch-clause-value g t c =
    let p = λ (e : g.row.M-Key.Denot × g.row.M-Val.Denot). g.T.AugTest.admits c.args.test.now (g.M.Augment.Augment.base_of e.0 e.1) in
    let left = c.in-Node.left.now.entries in
    let e : g.row.M-Key.Denot × g.row.M-Val.Denot = (c.in-Node.key.now, c.in-Node.val.now) in
    let none : filter p left ≡ [] = none_first (filter p left) (sym c.in_ok-entry-in-Node.ensures.value ∙ c.in-None.is) in
    ap Some c.in_ok-share_entry-in-None.ensures.value ∙ sym (first_here p c.args.part.tree.now.entries left e c.in-Node.right.now.entries c.in-Node.ensures.top.entries_are none (sym c.in_ok-entry_passes-in-None.ensures.value ∙ c.if-branch.true))

pub returns-else-branch-clause-value : goal.returns-else-branch-clause-value
returns-else-branch-clause-value g t c =
    let p = λ (e : g.row.M-Key.Denot × g.row.M-Val.Denot). g.T.AugTest.admits c.args.test.now (g.M.Augment.Augment.base_of e.0 e.1) in
    let left = c.in-Node.left.now.entries in
    let e : g.row.M-Key.Denot × g.row.M-Val.Denot = (c.in-Node.key.now, c.in-Node.val.now) in
    let none : filter p left ≡ [] = none_first (filter p left) (sym c.in_ok-entry-in-Node.ensures.value ∙ c.in-None.is) in
    let behind = first_right p c.args.part.tree.now.entries left e c.in-Node.right.now.entries c.in-Node.ensures.top.entries_are none (sym c.in_ok-entry_passes-in-None.ensures.value ∙ c.if-branch.false) in
    IfOk-weaker c.first_in-in-None.result _ _ (λ x h. h ∙ sym behind) c.first_in-in-None.ensures.value

pub first_in-requires : goal.first_in-requires
first_in-requires g t c κs within =
    let around = length-around c.in-Node.left.now.entries (c.in-Node.key.now, c.in-Node.val.now) c.in-Node.right.now.entries in
    let shorter : length c.in-Node.left.now.entries < length c.args.part.tree.now.entries = omega (arith, ap length c.in-Node.ensures.top.entries_are, around) in
    search rules

pub first_in-requires-in-None : goal.first_in-requires-in-None
first_in-requires-in-None g t c κs within =
    let around = length-around c.in-Node.left.now.entries (c.in-Node.key.now, c.in-Node.val.now) c.in-Node.right.now.entries in
    let shorter : length c.in-Node.right.now.entries < length c.args.part.tree.now.entries = omega (arith, ap length c.in-Node.ensures.top.entries_are, around) in
    search rules

pub returns-then-fails_whole-clause-value : goal.returns-then-fails_whole-clause-value
returns-then-fails_whole-clause-value g t c = rw (c.fails_whole.ensures.none c.if-fails_whole.true) refl

pub returns-in-Empty-clause-value : goal.returns-in-Empty-clause-value
returns-in-Empty-clause-value g t c = rw c.in-Empty.ensures.top refl

pub returns-in-Block-clause-value : goal.returns-in-Block-clause-value
returns-in-Block-clause-value g t c = rw c.in-Block.ensures.top.entries_are c.first_in_block.ensures.value

pub returns-in-Block-clause-missed : goal.returns-in-Block-clause-missed
returns-in-Block-clause-missed g t c = none_missed _ _ _ (c.fails_whole.ensures.some c.if-fails_whole.false) (returns-in-Block-clause-value g t c)

pub returns-else-branch-clause-missed : goal.returns-else-branch-clause-missed
returns-else-branch-clause-missed g t c = none_missed _ _ _ (c.fails_whole.ensures.some c.if-fails_whole.false) (returns-else-branch-clause-value g t c)
