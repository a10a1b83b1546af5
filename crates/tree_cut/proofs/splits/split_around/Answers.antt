use Rattle.std.proofs.Common.{sym, ◌∙◌}
use Rattle.map_model.proofs.Splits.{IsIncreasing-below, IsIncreasing-above}
use Rattle.map_model.proofs.Cuts.{cut_found, place_found}
use Rattle.tree_cut.proofs.splits.split_around.Goals as goal

pub cut_around-requires : goal.cut_around-requires
cut_around-requires g c =
    rw c.requires.place (place_found g.met.M.Key.Ord.total g.met.M.Key.Key.exact (g.M.Leaf.Leaf.entries c.args.leaf.now) c.args.key.now c.requires.increasing c.requires.hit)

pub from_leaf-requires-clause-increasing : goal.from_leaf-requires-clause-increasing
from_leaf-requires-clause-increasing g c =
    let entries = g.M.Leaf.Leaf.entries c.args.leaf.now in
    let parts = cut_found g.met.M.Key.Ord.total g.met.M.Key.Key.exact entries c.args.key.now c.requires.increasing _ _ _ c.requires.hit c.in_ok-around.ensures.whole (c.in_ok-around.ensures.front_length ∙ c.requires.place) in
    rw parts.0 (IsIncreasing-below g.M.Key.Ord.cmp entries c.args.key.now c.requires.increasing)

pub from_leaf-requires-2-clause-increasing : goal.from_leaf-requires-2-clause-increasing
from_leaf-requires-2-clause-increasing g c =
    let entries = g.M.Leaf.Leaf.entries c.args.leaf.now in
    let parts = cut_found g.met.M.Key.Ord.total g.met.M.Key.Key.exact entries c.args.key.now c.requires.increasing _ _ _ c.requires.hit c.in_ok-around.ensures.whole (c.in_ok-around.ensures.front_length ∙ c.requires.place) in
    rw parts.1 (IsIncreasing-above g.M.Key.Ord.cmp entries c.args.key.now c.requires.increasing)

pub returns-clause-below : goal.returns-clause-below
returns-clause-below g c =
    let entries = g.M.Leaf.Leaf.entries c.args.leaf.now in
    let parts = cut_found g.met.M.Key.Ord.total g.met.M.Key.Key.exact entries c.args.key.now c.requires.increasing _ _ _ c.requires.hit c.in_ok-around.ensures.whole (c.in_ok-around.ensures.front_length ∙ c.requires.place) in
    c.in_ok-lower.ensures.entries ∙ parts.0

pub returns-clause-found : goal.returns-clause-found
returns-clause-found g c =
    let entries = g.M.Leaf.Leaf.entries c.args.leaf.now in
    let parts = cut_found g.met.M.Key.Ord.total g.met.M.Key.Key.exact entries c.args.key.now c.requires.increasing _ _ _ c.requires.hit c.in_ok-around.ensures.whole (c.in_ok-around.ensures.front_length ∙ c.requires.place) in
    sym parts.2

pub returns-clause-above : goal.returns-clause-above
returns-clause-above g c =
    let entries = g.M.Leaf.Leaf.entries c.args.leaf.now in
    let parts = cut_found g.met.M.Key.Ord.total g.met.M.Key.Key.exact entries c.args.key.now c.requires.increasing _ _ _ c.requires.hit c.in_ok-around.ensures.whole (c.in_ok-around.ensures.front_length ∙ c.requires.place) in
    c.in_ok-higher.ensures.entries ∙ parts.1
