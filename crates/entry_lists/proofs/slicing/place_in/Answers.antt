use Rattle.std.proofs.Common.{rules, ◌≡◌, ◌/◌, true, false, refl, length, arith}
use Rattle.std.specs.Ordering.{is_lt}
use Rattle.entry_lists.proofs.Halves.{seeking_above, seeking_below, seeking_ends, steps_on, steps_end}
use Rattle.entry_lists.proofs.slicing.place_in.Goals as goal

pub loop-size-preserved-then-is_lt : goal.loop-size-preserved-then-is_lt
loop-size-preserved-then-is_lt g c =
    let l = c.loop-size in
    let e = c.index-entries-middle in
    let less : is_lt (g.K.Ord.cmp e.result.0 c.args.key.now) ≡ true = search rules in (
      seeking_above g.met.K.Ord.total c.args.key.now c.args.entries.now c.requires l.place l.size (l.size / 2) l.invariant.0 c.loop-size-test.true refl e.result e.is less,
      steps_on (length c.args.entries.now) l.size _ c.args.steps.now l.steps c.order.new.steps l.invariant.1 c.loop-size-test.true (omega arith) c.order.ensures.one_step,
    )

pub loop-size-preserved : goal.loop-size-preserved
loop-size-preserved g c =
    let l = c.loop-size in
    let e = c.index-entries-middle in
    let other : is_lt (g.K.Ord.cmp e.result.0 c.args.key.now) ≡ false = search rules in (
      seeking_below g.met.K.Ord.total c.args.key.now c.args.entries.now c.requires l.place l.size (l.size / 2) l.invariant.0 c.loop-size-test.true refl e.result e.is other,
      steps_on (length c.args.entries.now) l.size (l.size / 2) c.args.steps.now l.steps c.order.new.steps l.invariant.1 c.loop-size-test.true (omega arith) c.order.ensures.one_step,
    )

pub returns-clause-place : goal.returns-clause-place
returns-clause-place g c = seeking_ends g.K.Ord.cmp c.args.key.now c.args.entries.now c.loop-size.place c.loop-size.size c.loop-size.invariant.0 c.loop-size-test.false

pub returns-clause-cost : goal.returns-clause-cost
returns-clause-cost g c = steps_end (length c.args.entries.now) c.loop-size.size c.args.steps.now c.loop-size.steps c.loop-size.invariant.1
