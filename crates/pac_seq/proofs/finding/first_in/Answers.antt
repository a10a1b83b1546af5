use Rattle.std.proofs.Common.{Some, None, length, ap, sym, ◌∙◌, arith}
use Rattle.map_model.proofs.Cuts.{length-around}
use Rattle.seq_core.proofs.Sums.{sum-fits}
use Rattle.pac_seq.proofs.Carried.{carries_item, carries_left, carries_none, carries_right, carries_whole}
use Rattle.pac_seq.proofs.finding.first_in.Goals as goal

pub down-init : goal.down-init
down-init g c =
    let fold = g.F.Fold in
    record {
      fits = c.requires.fits;
      not_yet = c.requires.not_yet;
      within = omega arith;
      carries = carries_whole fold.image_of fold.unit_of fold.combined (g.T.SumTest.admits c.args.test.now) c.args.before c.args.tree.now.items;
      cost = omega arith;
    }

pub down-preserved-then-passes : goal.down-preserved-then-passes
down-preserved-then-passes g c =
    let law = g.met.F.Fold in
    let top = c.in-Node.ensures.top in
    let before = c.down.invariant in
    let size = ap length top.items_are ∙ length-around c.in-Node.left.now.items c.in-Node.item.now c.in-Node.right.now.items in
    let passed = rw (c.combine-front.ensures.value, c.sum.ensures) at (sym c.passes.ensures ∙ c.if-passes.true) in
    record {
      fits = before.fits;
      not_yet = before.not_yet;
      within = omega (arith, size, before.within);
      carries = carries_left law.monoid law.image_fits (g.met.T.SumTest.stays c.args.test.now) c.down.sum before.fits c.down.part.now.items c.in-Node.left.now.items c.in-Node.item.now c.in-Node.right.now.items top.items_are c.down.place c.args.before c.args.tree.now.items before.carries before.not_yet passed;
      cost = omega (arith, before.cost, top.height_is, c.combine-front.ensures.one_step);
    }

pub down-preserved : goal.down-preserved
down-preserved g c =
    let law = g.met.F.Fold in
    let top = c.in-Node.ensures.top in
    let before = c.down.invariant in
    let left = c.in-Node.left.now.items in
    let item = c.in-Node.item.now in
    let right = c.in-Node.right.now.items in
    let size = ap length top.items_are ∙ length-around left item right in
    let fails = rw (c.combine-front.ensures.value, c.sum.ensures) at (sym c.passes.ensures ∙ c.if-passes.false) in
    let neither = rw (c.combine-sum.ensures.value, c.of.ensures, c.combine-front.ensures.value, c.sum.ensures) at (sym c.passes-in-Node.ensures ∙ c.if-passes-2.false) in
    let carries = carries_right law.monoid law.image_fits (g.met.T.SumTest.stays c.args.test.now) c.down.sum before.fits c.down.part.now.items left item right top.items_are c.down.place c.args.before c.args.tree.now.items before.carries fails neither in
    record {
      fits = rw (c.combine-sum.ensures.value, c.of.ensures, c.combine-front.ensures.value, c.sum.ensures) (law.monoid.combine_fits _ _ (law.monoid.combine_fits _ _ before.fits (sum-fits law.monoid law.image_fits left)) (law.image_fits item));
      not_yet = sym c.passes-in-Node.ensures ∙ c.if-passes-2.false;
      within = omega (arith, size, before.within, top.before_is);
      carries = rw (c.combine-sum.ensures.value, c.of.ensures, c.combine-front.ensures.value, c.sum.ensures, top.before_is) carries;
      cost = omega (arith, before.cost, top.height_is, c.combine-front.ensures.one_step, c.combine-sum.ensures.one_step);
    }

pub returns-in-Empty-clause-value : goal.returns-in-Empty-clause-value
returns-in-Empty-clause-value g c =
    let fold = g.F.Fold in
    carries_none fold.image_of fold.unit_of fold.combined (g.T.SumTest.admits c.args.test.now) c.down.sum c.down.part.now.items c.down.place c.args.before c.args.tree.now.items c.down.invariant.carries c.in-Empty.ensures.top

pub returns-in-Some-clause-value : goal.returns-in-Some-clause-value
returns-in-Some-clause-value g c =
    c.down.invariant.carries (Some c.in-Some.found) (rw (c.in-Block.ensures.top.items_are) (rw (c.in-Some.is) at c.first_in_block.ensures.value))

pub returns-in-None-clause-value : goal.returns-in-None-clause-value
returns-in-None-clause-value g c =
    c.down.invariant.carries None (rw (c.in-Block.ensures.top.items_are) (rw (c.in-None.is) at c.first_in_block.ensures.value))

pub returns-then-passes-2-clause-value : goal.returns-then-passes-2-clause-value
returns-then-passes-2-clause-value g c =
    let law = g.met.F.Fold in
    let top = c.in-Node.ensures.top in
    let fails = rw (c.combine-front.ensures.value, c.sum.ensures) at (sym c.passes.ensures ∙ c.if-passes.false) in
    let passed = rw (c.combine-sum.ensures.value, c.of.ensures, c.combine-front.ensures.value, c.sum.ensures) at (sym c.passes-in-Node.ensures ∙ c.if-passes-2.true) in
    rw (top.before_is)
    (carries_item law.monoid law.image_fits (g.met.T.SumTest.stays c.args.test.now) c.down.sum c.down.invariant.fits c.down.part.now.items c.in-Node.left.now.items c.in-Node.item.now c.in-Node.right.now.items top.items_are c.down.place c.args.before c.args.tree.now.items c.down.invariant.carries fails passed)
