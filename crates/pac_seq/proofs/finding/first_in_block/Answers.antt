use Rattle.std.proofs.Common.{◌≡◌, ◌+◌, ◌<◌, false, true, ap, sym, ◌∙◌, inl, inr, arith}
use Rattle.std.proofs.lemmas.Bool.{cases_lt}
use Rattle.seq_core.proofs.Sums.{sum-fits, sum-take_more}
use Rattle.pac_seq.proofs.finding.first_in_block.Goals as goal

pub returns-then-passes-clause-value : goal.returns-then-passes-clause-value
returns-then-passes-clause-value g c =
    let law = g.met.F.Fold in
    let fold = g.F.Fold in
    let items = c.args.items.now in
    let more = sum-take_more law.monoid law.image_fits items c.loop-at.at c.index-items-at.result (omega (arith, c.loop-at-test.true, c.loop-at.invariant.within)) c.index-items-at.is in
    let front = law.monoid.assoc c.args.before _ _ c.requires (sum-fits law.monoid law.image_fits _) (law.image_fits c.index-items-at.result) in
    let now = c.combine-sum.ensures.value in
    let here = ap (g.T.SumTest.admits c.args.test.now) (ap (fold.combined c.args.before) more ∙ sym front) in
    let passed = rw (now, c.of.ensures, c.loop-at.invariant.sum_is) at (sym c.passes.ensures ∙ c.if-passes.true) in
    (omega (arith, c.loop-at-test.true), here ∙ passed, c.loop-at.invariant.none)

pub loop-at-preserved : goal.loop-at-preserved
loop-at-preserved g c =
    let law = g.met.F.Fold in
    let fold = g.F.Fold in
    let items = c.args.items.now in
    let more = sum-take_more law.monoid law.image_fits items c.loop-at.at c.index-items-at.result (omega (arith, c.loop-at-test.true, c.loop-at.invariant.within)) c.index-items-at.is in
    let front = law.monoid.assoc c.args.before _ _ c.requires (sum-fits law.monoid law.image_fits _) (law.image_fits c.index-items-at.result) in
    let whole = ap (fold.combined c.args.before) more ∙ sym front in
    let not_yet = rw (c.combine-sum.ensures.value, c.of.ensures, c.loop-at.invariant.sum_is) at (sym c.passes.ensures ∙ c.if-passes.false) in
    record {
      within = omega (arith, c.loop-at-test.true);
      sum_is = rw (c.combine-sum.ensures.value, c.of.ensures, c.loop-at.invariant.sum_is) (sym whole);
      none = λ i h. elim (cases_lt i c.loop-at.at) [
        | inl inside ↦ c.loop-at.invariant.none i inside
        | inr past ↦ (let is : i ≡ c.loop-at.at = omega (arith, past, h) in rw is (ap (g.T.SumTest.admits c.args.test.now) whole ∙ not_yet))
      ];
      cost = omega (arith, c.loop-at.invariant.cost, c.combine-sum.ensures.one_step);
    }
