use Rattle.std.proofs.Common.{sym, ◌∙◌, arith}
use Rattle.std.proofs.lemmas.Bool.{false_from_ne_true, false≢true}
use Rattle.map_model.proofs.Splits.{IsIncreasing-set}
use Rattle.map_model.proofs.Cuts.{none_of_absent, place_found, place_any, set_sizes}
use Rattle.tree_entry.proofs.Places.{replaced, inserted}
use Rattle.tree_entry.proofs.leaves.put_in_leaf.Goals as goal

pub overflow_add-place : goal.overflow_add-place
overflow_add-place g c =
    omega (arith, c.requires.short, c.requires.at, place_any g.K.Ord.cmp (g.L.Leaf.entries c.args.leaf.now) c.args.key)

pub splice-requires-clause-inside : goal.splice-requires-clause-inside
splice-requires-clause-inside g c =
    omega (arith, c.requires.at, place_found g.met.K.Ord.total g.met.K.Key.exact (g.L.Leaf.entries c.args.leaf.now) c.args.key c.requires.increasing (c.requires.hit.0 c.if-place.true))

pub splice-requires-clause-increasing : goal.splice-requires-clause-increasing
splice-requires-clause-increasing g c =
    let entries = g.L.Leaf.entries c.args.leaf.now in
    let new = replaced g.met.K.Ord.total g.met.K.Key.exact entries c.args.key c.requires.increasing c.args.val (c.requires.hit.0 c.if-place.true) in
    rw (c.requires.at, new) (IsIncreasing-set g.met.K.Ord.total entries c.args.key c.args.val c.requires.increasing)

pub splice-requires-clause-short : goal.splice-requires-clause-short
splice-requires-clause-short g c =
    let entries = g.L.Leaf.entries c.args.leaf.now in
    let new = replaced g.met.K.Ord.total g.met.K.Key.exact entries c.args.key c.requires.increasing c.args.val (c.requires.hit.0 c.if-place.true) in
    let sizes = set_sizes g.met.K.Ord.total g.met.K.Key.exact entries c.args.key c.requires.increasing c.args.val in
    rw (c.requires.at, new) (omega (arith, sizes.1, c.requires.short))

pub returns-then-place : goal.returns-then-place
returns-then-place g c =
    let new = replaced g.met.K.Ord.total g.met.K.Key.exact (g.L.Leaf.entries c.args.leaf.now) c.args.key c.requires.increasing c.args.val (c.requires.hit.0 c.if-place.true) in
    rw (c.requires.at, new) at c.splice.ensures

pub splice-requires-else-place-clause-inside : goal.splice-requires-else-place-clause-inside
splice-requires-else-place-clause-inside g c = rw c.requires.at (place_any g.K.Ord.cmp (g.L.Leaf.entries c.args.leaf.now) c.args.key)

pub splice-requires-else-place-clause-increasing : goal.splice-requires-else-place-clause-increasing
splice-requires-else-place-clause-increasing g c =
    let entries = g.L.Leaf.entries c.args.leaf.now in
    let absent = none_of_absent _ (false_from_ne_true _ (λ h. false≢true (sym c.if-place.false ∙ c.requires.hit.1 h))) in
    let new = inserted g.met.K.Ord.total g.met.K.Key.exact entries c.args.key c.requires.increasing c.args.val absent in
    rw (c.requires.at, new) (IsIncreasing-set g.met.K.Ord.total entries c.args.key c.args.val c.requires.increasing)

pub splice-requires-else-place-clause-short : goal.splice-requires-else-place-clause-short
splice-requires-else-place-clause-short g c =
    let entries = g.L.Leaf.entries c.args.leaf.now in
    let absent = none_of_absent _ (false_from_ne_true _ (λ h. false≢true (sym c.if-place.false ∙ c.requires.hit.1 h))) in
    let new = inserted g.met.K.Ord.total g.met.K.Key.exact entries c.args.key c.requires.increasing c.args.val absent in
    let sizes = set_sizes g.met.K.Ord.total g.met.K.Key.exact entries c.args.key c.requires.increasing c.args.val in
    rw (c.requires.at, new) (omega (arith, sizes.1, c.requires.short))

pub returns-else-place : goal.returns-else-place
returns-else-place g c =
    let entries = g.L.Leaf.entries c.args.leaf.now in
    let absent = none_of_absent _ (false_from_ne_true _ (λ h. false≢true (sym c.if-place.false ∙ c.requires.hit.1 h))) in
    let new = inserted g.met.K.Ord.total g.met.K.Key.exact entries c.args.key c.requires.increasing c.args.val absent in
    rw (c.requires.at, new) at c.splice-else-place.ensures
