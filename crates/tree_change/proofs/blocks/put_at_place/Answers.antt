use Rattle.std.proofs.Common.{sym, ◌∙◌, arith}
use Rattle.std.proofs.lemmas.Bool.{false_from_ne_true, false≢true}
use Rattle.map_model.proofs.Splits.{IsIncreasing-set}
use Rattle.map_model.proofs.Cuts.{none_of_absent, place_found, place_any, parts_found, cut_missed}
use Rattle.tree_change.proofs.blocks.put_at_place.Goals as goal

pub set_at-requires-clause-inside : goal.set_at-requires-clause-inside
set_at-requires-clause-inside g c =
    omega (arith, c.requires.at, place_found g.met.K.Ord.total g.met.K.Key.exact (g.L.Leaf.entries c.args.leaf.now) c.args.key c.requires.increasing (c.requires.hit.0 c.if-place.true))

pub set_at-requires-clause-increasing : goal.set_at-requires-clause-increasing
set_at-requires-clause-increasing g c =
    let entries = g.L.Leaf.entries c.args.leaf.now in
    let parts = parts_found g.met.K.Ord.total g.met.K.Key.exact entries c.args.key c.requires.increasing (c.requires.hit.0 c.if-place.true) in
    rw (c.requires.at, parts.0, parts.1) (IsIncreasing-set g.met.K.Ord.total entries c.args.key c.args.val c.requires.increasing)

pub insert_at-requires-clause-inside : goal.insert_at-requires-clause-inside
insert_at-requires-clause-inside g c = rw c.requires.at (place_any g.K.Ord.cmp (g.L.Leaf.entries c.args.leaf.now) c.args.key)

pub insert_at-requires-clause-increasing : goal.insert_at-requires-clause-increasing
insert_at-requires-clause-increasing g c =
    let entries = g.L.Leaf.entries c.args.leaf.now in
    let absent = none_of_absent _ (false_from_ne_true _ (λ h. false≢true (sym c.if-place.false ∙ c.requires.hit.1 h))) in
    let parts = cut_missed g.met.K.Ord.total g.met.K.Key.exact entries c.args.key c.requires.increasing absent in
    rw (c.requires.at, parts.0, parts.1) (IsIncreasing-set g.met.K.Ord.total entries c.args.key c.args.val c.requires.increasing)

pub returns-then-place-clause-entries : goal.returns-then-place-clause-entries
returns-then-place-clause-entries g c =
    let parts = parts_found g.met.K.Ord.total g.met.K.Key.exact (g.L.Leaf.entries c.args.leaf.now) c.args.key c.requires.increasing (c.requires.hit.0 c.if-place.true) in
    rw (c.requires.at, parts.0, parts.1) at c.set_at.ensures.set

pub returns-else-place-clause-entries : goal.returns-else-place-clause-entries
returns-else-place-clause-entries g c =
    let entries = g.L.Leaf.entries c.args.leaf.now in
    let absent = none_of_absent _ (false_from_ne_true _ (λ h. false≢true (sym c.if-place.false ∙ c.requires.hit.1 h))) in
    let parts = cut_missed g.met.K.Ord.total g.met.K.Key.exact entries c.args.key c.requires.increasing absent in
    rw (c.requires.at, parts.0, parts.1) at c.insert_at.ensures.inserted
