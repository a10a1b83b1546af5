use Rattle.std.proofs.Common.{◌∙◌, sym, arith}
use Rattle.std.specs.Ordering.{is_lt}
use Rattle.std.proofs.Common.{◌≡◌, get_or, true, false, ap}
use Rattle.entry_lists.proofs.Slices.{counted_to, counted_all, counted_more}
use Rattle.entry_lists.proofs.slicing.count_below.Goals as goal

pub loop-entry-preserved : goal.loop-entry-preserved
loop-entry-preserved g c =
    let at = c.loop-entry in
    let item = c.entry-item in
    let count : at.count ≡ at.entry-index = at.invariant.0 in
    let is : item.result ≡ get_or c.args.entries.now at.count item.result = rw count item.is in
    let less : is_lt (g.K.Ord.cmp item.result.0 c.args.key.now) ≡ true = ap is_lt (sym c.order.ensures.value) ∙ sym c.is_lt.ensures ∙ c.if-not-is_lt.false in (
      omega (arith, count),
      counted_more g.K.Ord.cmp c.args.key.now c.args.entries.now at.count item.result (omega arith) is less at.invariant.1,
      omega (arith, c.order.ensures.one_step, at.invariant.2),
    )

pub returns-then-not-is_lt-clause-place : goal.returns-then-not-is_lt-clause-place
returns-then-not-is_lt-clause-place g c =
    let at = c.loop-entry in
    let item = c.entry-item in
    let count : at.count ≡ at.entry-index = at.invariant.0 in
    let is : item.result ≡ get_or c.args.entries.now at.count item.result = rw count item.is in
    let other : is_lt (g.K.Ord.cmp item.result.0 c.args.key.now) ≡ false = ap is_lt (sym c.order.ensures.value) ∙ sym c.is_lt.ensures ∙ c.if-not-is_lt.true in
    counted_to g.met.K.Ord.total c.args.key.now c.args.entries.now c.requires at.count at.invariant.1 item.result (omega arith) is other

pub returns-clause-place : goal.returns-clause-place
returns-clause-place g c =
    let at = c.loop-entry in
    let count : at.count ≡ at.entry-index = at.invariant.0 in
    counted_all g.met.K.Ord.total c.args.key.now c.args.entries.now c.requires at.count at.invariant.1 (omega (arith, count))

pub returns-then-not-is_lt-clause-cost : goal.returns-then-not-is_lt-clause-cost
returns-then-not-is_lt-clause-cost g c = omega (arith, c.order.ensures.one_step, c.loop-entry.invariant.2)

pub returns-clause-cost : goal.returns-clause-cost
returns-clause-cost g c = omega (arith, c.loop-entry.invariant.2)
