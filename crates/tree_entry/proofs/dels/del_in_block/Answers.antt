use Rattle.std.proofs.Common.{sym, ◌∙◌, arith}
use Rattle.std.proofs.lemmas.Bool.{false_from_ne_true, false≢true, not-true, not-false}
use Rattle.map_model.proofs.Splits.{IsIncreasing-drop_key, drop_key-absent}
use Rattle.map_model.proofs.Cuts.{drop_sizes, none_of_absent, place_found}
use Rattle.tree_entry.proofs.Places.{removed}
use Rattle.tree_entry.proofs.dels.del_in_block.Goals as goal

pub without-requires : goal.without-requires
without-requires g c =
    rw c.seek-place.ensures.at (place_found g.met.M.Key.Ord.total g.met.M.Key.Key.exact (g.M.Leaf.Leaf.entries c.args.leaf.now) c.args.key.now c.requires.increasing (c.seek-place.ensures.hit.0 (not-false _ c.if-not-place.false)))

pub from_leaf-requires-clause-increasing : goal.from_leaf-requires-clause-increasing
from_leaf-requires-clause-increasing g c =
    let entries = g.M.Leaf.Leaf.entries c.args.leaf.now in
    let rest = removed g.met.M.Key.Ord.total g.met.M.Key.Key.exact entries c.args.key.now c.requires.increasing (c.seek-place.ensures.hit.0 (not-false _ c.if-not-place.false)) in
    rw (c.in_ok-rest.ensures, c.seek-place.ensures.at, rest) (IsIncreasing-drop_key g.M.Key.Ord.cmp entries c.args.key.now c.requires.increasing)

pub from_leaf-requires-clause-small : goal.from_leaf-requires-clause-small
from_leaf-requires-clause-small g c =
    let entries = g.M.Leaf.Leaf.entries c.args.leaf.now in
    let rest = removed g.met.M.Key.Ord.total g.met.M.Key.Key.exact entries c.args.key.now c.requires.increasing (c.seek-place.ensures.hit.0 (not-false _ c.if-not-place.false)) in
    let less = (drop_sizes g.met.M.Key.Ord.total g.met.M.Key.Key.exact entries c.args.key.now c.requires.increasing).0 in
    rw (c.in_ok-rest.ensures, c.seek-place.ensures.at, rest) (omega (arith, less, c.requires.short))

pub returns-clause-entries : goal.returns-clause-entries
returns-clause-entries g c =
    let rest = removed g.met.M.Key.Ord.total g.met.M.Key.Key.exact (g.M.Leaf.Leaf.entries c.args.leaf.now) c.args.key.now c.requires.increasing (c.seek-place.ensures.hit.0 (not-false _ c.if-not-place.false)) in
    rw (c.in_ok-rest.ensures, c.seek-place.ensures.at, rest) at c.from_leaf.ensures.entries

pub returns-clause-cost : goal.returns-clause-cost
returns-clause-cost g c =
    let entries = g.M.Leaf.Leaf.entries c.args.leaf.now in
    let rest = removed g.met.M.Key.Ord.total g.met.M.Key.Key.exact entries c.args.key.now c.requires.increasing (c.seek-place.ensures.hit.0 (not-false _ c.if-not-place.false)) in
    let less = (drop_sizes g.met.M.Key.Ord.total g.met.M.Key.Key.exact entries c.args.key.now c.requires.increasing).0 in
    let cost = rw (c.in_ok-rest.ensures, c.seek-place.ensures.at, rest) at c.from_leaf.ensures.cost in
    omega (arith, less, cost, c.seek-place.ensures.within, c.requires.short, g.M.Shape.lawful.0, g.M.Shape.lawful.1)

pub returns-then-not-place-clause-entries : goal.returns-then-not-place-clause-entries
returns-then-not-place-clause-entries g c =
    let entries = g.M.Leaf.Leaf.entries c.args.leaf.now in
    let missed = not-true c.seek-place.result.hit c.if-not-place.true in
    let absent = none_of_absent _ (false_from_ne_true _ (λ h. false≢true (sym missed ∙ c.seek-place.ensures.hit.1 h))) in
    rw (drop_key-absent g.met.M.Key.Ord.total g.met.M.Key.Key.exact entries c.args.key.now c.requires.increasing absent) (rw c.requires.same at c.another_owner.ensures)
