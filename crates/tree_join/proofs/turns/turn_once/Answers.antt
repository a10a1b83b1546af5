use Rattle.std.proofs.Common.{subst}
use Rattle.map_model.specs.Entries.{IsIncreasing}
use Rattle.tree_join.proofs.Beside.{regroup-beside, increasing-far}
use Rattle.tree_join.proofs.turns.turn_once.Goals as goal

pub link_lent-requires-clause-increasing : goal.link_lent-requires-clause-increasing
link_lent-requires-clause-increasing g c = increasing-far g.M.Key.Ord.cmp c.args.side _ _ _ (subst (IsIncreasing g.M.Key.Ord.cmp) (regroup-beside c.args.side _ _ _ _ _) c.requires.increasing)

pub link_lent-requires-2-clause-increasing : goal.link_lent-requires-2-clause-increasing
link_lent-requires-2-clause-increasing g c = rw c.in_ok-front.ensures.entries (subst (IsIncreasing g.M.Key.Ord.cmp) (regroup-beside c.args.side _ _ _ _ _) c.requires.increasing)

pub returns-clause-entries : goal.returns-clause-entries
returns-clause-entries g c =
    rw (regroup-beside c.args.side c.args.outer.now.entries (c.args.key.now, c.args.val.now) c.args.near.far.now.entries (c.args.near.key.now, c.args.near.val.now) c.args.near.near.now.entries)
    (rw c.in_ok-front.ensures.entries at c.link_lent-2.ensures.entries)
