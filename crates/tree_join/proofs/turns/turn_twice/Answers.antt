use Rattle.std.proofs.lemmas.Grind.{common_steps}
use Rattle.std.proofs.Common.{subst, arith}
use Rattle.map_model.specs.Entries.{IsIncreasing}
use Rattle.tree_join.proofs.Beside.{weight-beside, regroup-twice, increasing-far, increasing-near}
use Rattle.tree_join.proofs.Weights.{double_balances}
use Rattle.tree_join.proofs.turns.turn_twice.Goals as goal

pub link_lent-requires-clause-increasing : goal.link_lent-requires-clause-increasing
link_lent-requires-clause-increasing g c =
    let whole = subst (IsIncreasing g.M.Key.Ord.cmp) (regroup-twice c.args.side _ _ _ _ _ _ _) (rw c.sides_of-inner.ensures.entries at c.requires.increasing) in
    increasing-far g.M.Key.Ord.cmp c.args.side _ _ _ whole

pub link_lent-requires-2-clause-increasing : goal.link_lent-requires-2-clause-increasing
link_lent-requires-2-clause-increasing g c =
    let whole = subst (IsIncreasing g.M.Key.Ord.cmp) (regroup-twice c.args.side _ _ _ _ _ _ _) (rw c.sides_of-inner.ensures.entries at c.requires.increasing) in
    increasing-near g.M.Key.Ord.cmp c.args.side _ _ _ whole

pub link_lent-requires-3-clause-increasing : goal.link_lent-requires-3-clause-increasing
link_lent-requires-3-clause-increasing g c =
    let whole = subst (IsIncreasing g.M.Key.Ord.cmp) (regroup-twice c.args.side _ _ _ _ _ _ _) (rw c.sides_of-inner.ensures.entries at c.requires.increasing) in
    rw (c.in_ok-front.ensures.entries, c.in_ok-back.ensures.entries) whole

pub link_lent-requires-3-clause-balanced : goal.link_lent-requires-3-clause-balanced
link_lent-requires-3-clause-balanced g c = λ _.
    let inner = weight-beside c.args.side _ _ _ _ c.sides_of-inner.ensures.entries in
    let front = weight-beside c.args.side _ _ _ _ c.in_ok-front.ensures.entries in
    let back = weight-beside c.args.side _ _ _ _ c.in_ok-back.ensures.entries in
    rw (front, back) (double_balances _ _ _ _ (rw inner at c.requires.repairable) c.sides_of-inner.ensures.balanced (rw inner at c.requires.unbalanced) (rw inner at c.requires.not_single))

pub link_lent-requires-clause-balanced : goal.link_lent-requires-clause-balanced
link_lent-requires-clause-balanced g c = grind (arith, common_steps)

pub link_lent-requires-2-clause-balanced : goal.link_lent-requires-2-clause-balanced
link_lent-requires-2-clause-balanced g c = grind (arith, common_steps)

pub returns-clause-entries : goal.returns-clause-entries
returns-clause-entries g c =
    rw (c.sides_of-inner.ensures.entries, regroup-twice c.args.side c.args.outer.now.entries (c.args.key.now, c.args.val.now) c.sides_of-inner.result.far.now.entries (c.sides_of-inner.result.key.now, c.sides_of-inner.result.val.now) c.sides_of-inner.result.near.now.entries (c.args.near.key.now, c.args.near.val.now) c.args.near.near.now.entries)
    (rw (c.in_ok-front.ensures.entries, c.in_ok-back.ensures.entries) at c.link_lent-3.ensures.entries)
