use Rattle.std.proofs.Common.{◌≡◌, true, false, sym, ap, ◌∙◌}
use Rattle.std.proofs.lemmas.Bool.{not-true, not-false}
use Rattle.map_model.proofs.AugFilter.{aug_filter-none}
use Rattle.tree_filter.proofs.FoldTests.{aug_filter-some}
use Rattle.tree_filter.proofs.passing.fails_whole.Goals as goal

pub returns-in-Some-clause-none : goal.returns-in-Some-clause-none
returns-in-Some-clause-none g c = λ fails.
    let law = g.met.M.Augment.Augment in
    let admits = g.T.AugTest.admits c.args.test.now in
    aug_filter-none law.monoid law.base_fits admits (g.met.T.AugTest.passes_either c.args.test.now) c.args.tree.now.entries (ap admits (sym c.in-Some.ensures.fold) ∙ sym c.tested.ensures.value ∙ not-true c.tested.result fails)

pub returns-in-Some-clause-some : goal.returns-in-Some-clause-some
returns-in-Some-clause-some g c = λ passes.
    let law = g.met.M.Augment.Augment in
    let admits = g.T.AugTest.admits c.args.test.now in
    aug_filter-some law.monoid law.base_fits admits (g.met.T.AugTest.passes_either c.args.test.now) c.args.tree.now.entries (λ is. let no = c.in-Some.ensures.none.1 is in cc) (ap admits (sym c.in-Some.ensures.fold) ∙ sym c.tested.ensures.value ∙ not-false c.tested.result passes)
