use Rattle.std.proofs.Common.{subst, arith}
use Rattle.map_model.specs.Entries.{IsIncreasing}
use Rattle.map_model.proofs.Keys.{IsIncreasing-front, around}
use Rattle.tree_cut.proofs.exposing.halves_of.Goals as goal

pub from_leaf-requires-clause-increasing : goal.from_leaf-requires-clause-increasing
from_leaf-requires-clause-increasing g c = IsIncreasing-front g.M.Key.Ord.cmp _ _ (subst (IsIncreasing g.M.Key.Ord.cmp) c.in_ok-front.ensures.whole c.requires.increasing)

pub from_leaf-requires-2-clause-increasing : goal.from_leaf-requires-2-clause-increasing
from_leaf-requires-2-clause-increasing g c = (around _ _ _ _ _ (subst (IsIncreasing g.M.Key.Ord.cmp) c.in_ok-front.ensures.whole c.requires.increasing)).right

pub returns-clause-entries : goal.returns-clause-entries
returns-clause-entries g c = rw (c.in_ok-left.ensures.entries, c.in_ok-right.ensures.entries) c.in_ok-front.ensures.whole

pub returns-clause-balanced : goal.returns-clause-balanced
returns-clause-balanced g c =
    let cut = c.in_ok-front.ensures in
    rw (c.in_ok-left.ensures.entries, c.in_ok-right.ensures.entries) (omega (arith, cut.front_length, cut.back_length, c.len.ensures.value, c.requires.some), omega (arith, cut.front_length, cut.back_length, c.len.ensures.value, c.requires.some))
