use Rattle.std.proofs.Common.{sym, ap, ◌∙◌}
use Rattle.std.proofs.lemmas.Result.{IfOk-weaker}
use Rattle.map_model.specs.Entries.{lookup}
use Rattle.map_model.proofs.Lookups.{lookup_left, lookup_middle, lookup_right}
use Rattle.tree_many.proofs.one.+answer_in.Goals as goal

pub returns-in-Less : goal.returns-in-Less
returns-in-Less g t c =
    let node = c.in-Node.ensures.top in
    let looked = ap (λ m. lookup g.M.Key.Ord.cmp m c.args.key.now) node.entries_are ∙ lookup_left g.met.M.Key.Ord.total c.in-Node.left.now.entries c.in-Node.middle.now c.in-Node.val.now c.in-Node.right.now.entries c.args.key.now node.increasing (sym c.in-Less.ensures.value) in
    IfOk-weaker c.answer_in.result _ _ (λ x h. h ∙ sym (ap g.W.Answer.answer looked)) c.answer_in.ensures

pub returns-in-Equal : goal.returns-in-Equal
returns-in-Equal g t c =
    let node = c.in-Node.ensures.top in
    let looked = ap (λ m. lookup g.M.Key.Ord.cmp m c.args.key.now) node.entries_are ∙ lookup_middle g.met.M.Key.Ord.total c.in-Node.left.now.entries c.in-Node.middle.now c.in-Node.val.now c.in-Node.right.now.entries c.args.key.now node.increasing (sym c.in-Equal.ensures.value) in
    IfOk-weaker c.found.result _ _ (λ x h. h ∙ sym (ap g.W.Answer.answer looked)) c.found.ensures

pub returns-in-Greater : goal.returns-in-Greater
returns-in-Greater g t c =
    let node = c.in-Node.ensures.top in
    let looked = ap (λ m. lookup g.M.Key.Ord.cmp m c.args.key.now) node.entries_are ∙ lookup_right g.met.M.Key.Ord.total c.in-Node.left.now.entries c.in-Node.middle.now c.in-Node.val.now c.in-Node.right.now.entries c.args.key.now node.increasing (sym c.in-Greater.ensures.value) in
    IfOk-weaker c.answer_in-in-Greater.result _ _ (λ x h. h ∙ sym (ap g.W.Answer.answer looked)) c.answer_in-in-Greater.ensures
