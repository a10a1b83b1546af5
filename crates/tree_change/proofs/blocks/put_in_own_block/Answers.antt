use Rattle.std.proofs.Common.{◌∙◌, sym, arith}
use Rattle.std.proofs.lemmas.Bool.{false_from_ne_true, false≢true, not-true}
use Rattle.map_model.proofs.Cuts.{none_of_absent, set_sizes}
use Rattle.tree_change.proofs.Taking.{fold_set, longer_if_new, set_some}
use Rattle.tree_change.proofs.blocks.put_in_own_block.Goals as goal

pub fold_after_put-requires-clause-some : goal.fold_after_put-requires-clause-some
fold_after_put-requires-clause-some g c =
    rw c.in_ok-put_at_place.ensures.entries (set_some g.M.Key.Ord.cmp (g.M.Leaf.Leaf.entries c.args.block.now.leaf) c.args.key c.args.val)

pub fold_after_put-requires-clause-grown : goal.fold_after_put-requires-clause-grown
fold_after_put-requires-clause-grown g c = λ is_new alike.
    let law = g.met.M.Augment.Augment in
    let entries = g.M.Leaf.Leaf.entries c.args.block.now.leaf in
    let missed = not-true c.args.place.hit is_new in
    let absent = none_of_absent _ (false_from_ne_true _ (λ h. false≢true (sym missed ∙ c.requires.hit.1 h))) in
    rw (c.in_ok-put_at_place.ensures.entries, c.requires.folded, c.requires.base)
    (sym (fold_set law.monoid law.base_fits alike g.met.M.Key.Ord.total g.met.M.Key.Key.exact entries c.args.key c.args.val c.requires.increasing absent))

pub returns-clause-cost : goal.returns-clause-cost
returns-clause-cost g c =
    let more = (set_sizes g.met.M.Key.Ord.total g.met.M.Key.Key.exact (g.M.Leaf.Leaf.entries c.args.block.now.leaf) c.args.key c.requires.increasing c.args.val).1 in
    let cost = rw c.in_ok-put_at_place.ensures.entries at c.fold_after_put.ensures.cost in
    omega (arith, more, cost)

pub returns-clause-larger : goal.returns-clause-larger
returns-clause-larger g c = λ is_new.
    let entries = g.M.Leaf.Leaf.entries c.args.block.now.leaf in
    let missed = not-true c.args.place.hit (c.in_block.ensures is_new) in
    let absent = none_of_absent _ (false_from_ne_true _ (λ h. false≢true (sym missed ∙ c.requires.hit.1 h))) in
    rw c.in_ok-put_at_place.ensures.entries (longer_if_new g.met.M.Key.Ord.total g.met.M.Key.Key.exact entries c.args.key c.args.val c.requires.increasing absent)
