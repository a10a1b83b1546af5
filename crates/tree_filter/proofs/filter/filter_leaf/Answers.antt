use Rattle.std.proofs.Common.{length, sym, ap, ◌∙◌, arith}
use Rattle.std.proofs.lemmas.Result.{IfOk-weaker}
use Rattle.map_model.proofs.Keys.{IsIncreasing-filter}
use Rattle.map_model.proofs.Lengths.{length-filter_le}
use Rattle.tree_filter.proofs.Walks.{filter_whole}
use Rattle.tree_filter.proofs.filter.filter_leaf.Goals as goal

pub returns-then-len-clause-kept : goal.returns-then-len-clause-kept
returns-then-len-clause-kept g c =
    let p = λ (e : g.row.M-Key.Denot × g.row.M-Val.Denot). g.T.AugTest.admits c.args.test.now (g.M.Augment.Augment.base_of e.0 e.1) in
    let entries = g.M.Leaf.Leaf.entries c.args.leaf.now in
    let whole = filter_whole p entries (sym (ap length c.in_ok-kept.ensures.kept) ∙ omega arith) in
    IfOk-weaker c.share.result _ _ (λ x h. ap (λ y. y.entries) h ∙ c.requires.same ∙ sym whole) c.share.ensures.value

pub from_owned-requires-clause-increasing : goal.from_owned-requires-clause-increasing
from_owned-requires-clause-increasing g c =
    let p = λ (e : g.row.M-Key.Denot × g.row.M-Val.Denot). g.T.AugTest.admits c.args.test.now (g.M.Augment.Augment.base_of e.0 e.1) in
    rw c.in_ok-kept.ensures.kept (IsIncreasing-filter g.M.Key.Ord.cmp p (g.M.Leaf.Leaf.entries c.args.leaf.now) c.requires.increasing)

pub from_owned-requires-clause-fits : goal.from_owned-requires-clause-fits
from_owned-requires-clause-fits g c =
    let p = λ (e : g.row.M-Key.Denot × g.row.M-Val.Denot). g.T.AugTest.admits c.args.test.now (g.M.Augment.Augment.base_of e.0 e.1) in
    let few = length-filter_le p (g.M.Leaf.Leaf.entries c.args.leaf.now) in
    rw c.in_ok-kept.ensures.kept (omega (arith, few, c.requires.short, g.M.Shape.lawful))
