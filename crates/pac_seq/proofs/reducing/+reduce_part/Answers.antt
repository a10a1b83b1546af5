use Rattle.std.proofs.Common.{◌+◌, ◌-◌, ◌<◌, ◌≤◌, length, take, drop, refl, sym, ap, ◌∙◌, arith}
use Rattle.map_model.proofs.Cuts.{length-around}
use Rattle.seq_core.proofs.Parts.{drop-around}
use Rattle.seq_core.proofs.Sums.{sum-around}
use Rattle.pac_seq.proofs.Runs.{run-around}
use Rattle.pac_seq.proofs.reducing.+reduce_part.Goals as goal

pub returns-then-before-from-clause-value : goal.returns-then-before-from-clause-value
returns-then-before-from-clause-value g t c =
    let left = c.in-Node.left.now.items in
    let past : length left < c.args.from = omega (arith, c.if-before-from.true, c.in-Node.ensures.top.before_is) in
    rw (c.in-Node.ensures.top.items_are, drop-around left c.in-Node.item.now c.in-Node.right.now.items c.args.from past) (rw c.in-Node.ensures.top.before_is at c.reduce_part.ensures.value)

pub returns-else-from-count-clause-value : goal.returns-else-from-count-clause-value
returns-else-from-count-clause-value g t c =
    let law = g.met.F.Fold in
    let left = c.in-Node.left.now.items in
    let right = c.in-Node.right.now.items in
    let near : c.args.from ≤ length left = omega (arith, c.if-before-from.false, c.in-Node.ensures.top.before_is) in
    let far : length left < c.args.from + c.args.count = omega (arith, c.if-from-count.false, c.in-Node.ensures.top.before_is) in
    let whole = run-around left c.in-Node.item.now right c.args.from c.args.count near far in
    let around = sum-around law.monoid law.image_fits (take (length left - c.args.from) (drop c.args.from left)) c.in-Node.item.now (take (c.args.from + c.args.count - length left - 1) right) in
    rw (c.in-Node.ensures.top.items_are, whole, around) (rw (c.combine-front.ensures.value, c.reduce_part-front.ensures.value, c.of.ensures, c.reduce_part-back.ensures.value, c.in-Node.ensures.top.before_is) at c.combine.ensures.value)

pub returns-then-before-from-clause-whole : goal.returns-then-before-from-clause-whole
returns-then-before-from-clause-whole g t c =
    let size = ap length c.in-Node.ensures.top.items_are ∙ length-around c.in-Node.left.now.items c.in-Node.item.now c.in-Node.right.now.items in
    λ is. omega (arith, size, is, c.requires, c.if-before-from.true)

pub returns-then-before-from-clause-front : goal.returns-then-before-from-clause-front
returns-then-before-from-clause-front g t c =
    λ is. omega (arith, is, c.if-before-from.true)

pub returns-then-before-from-clause-back : goal.returns-then-before-from-clause-back
returns-then-before-from-clause-back g t c =
    let size = ap length c.in-Node.ensures.top.items_are ∙ length-around c.in-Node.left.now.items c.in-Node.item.now c.in-Node.right.now.items in
    λ is. let less = c.reduce_part.ensures.back (omega (arith, size, is, c.if-before-from.true, c.in-Node.ensures.top.before_is)) in omega (arith, less, c.in-Node.ensures.top.height_is)

pub returns-then-before-from-clause-cost : goal.returns-then-before-from-clause-cost
returns-then-before-from-clause-cost g t c =
    omega (arith, c.reduce_part.ensures.cost, c.in-Node.ensures.top.height_is)

pub returns-then-from-count-clause-whole : goal.returns-then-from-count-clause-whole
returns-then-from-count-clause-whole g t c =
    let size = ap length c.in-Node.ensures.top.items_are ∙ length-around c.in-Node.left.now.items c.in-Node.item.now c.in-Node.right.now.items in
    λ is. omega (arith, size, is, c.if-from-count.true, c.in-Node.ensures.top.before_is)

pub returns-then-from-count-clause-front : goal.returns-then-from-count-clause-front
returns-then-from-count-clause-front g t c =
    λ is. let less = c.reduce_part-then-from-count.ensures.front is in omega (arith, less, c.in-Node.ensures.top.height_is)

pub returns-then-from-count-clause-back : goal.returns-then-from-count-clause-back
returns-then-from-count-clause-back g t c =
    let size = ap length c.in-Node.ensures.top.items_are ∙ length-around c.in-Node.left.now.items c.in-Node.item.now c.in-Node.right.now.items in
    λ is. omega (arith, size, is, c.if-from-count.true, c.in-Node.ensures.top.before_is)

pub returns-then-from-count-clause-cost : goal.returns-then-from-count-clause-cost
returns-then-from-count-clause-cost g t c =
    omega (arith, c.reduce_part-then-from-count.ensures.cost, c.in-Node.ensures.top.height_is)

pub returns-else-from-count-clause-whole : goal.returns-else-from-count-clause-whole
returns-else-from-count-clause-whole g t c =
    λ is. absurd (c.if-count-size.false (is ∙ sym c.size.ensures.value))

pub returns-else-from-count-clause-front : goal.returns-else-from-count-clause-front
returns-else-from-count-clause-front g t c =
    λ is. let first = c.reduce_part-front.ensures.whole (omega (arith, is, c.in-Node.ensures.top.before_is)) in let second = c.reduce_part-back.ensures.front refl in omega (arith, first, second, c.combine-front.ensures.one_step, c.combine.ensures.one_step, c.in-Node.ensures.top.height_is)

pub returns-else-from-count-clause-back : goal.returns-else-from-count-clause-back
returns-else-from-count-clause-back g t c =
    let size = ap length c.in-Node.ensures.top.items_are ∙ length-around c.in-Node.left.now.items c.in-Node.item.now c.in-Node.right.now.items in
    λ is. let first = c.reduce_part-front.ensures.back (omega (arith, c.if-before-from.false, c.in-Node.ensures.top.before_is)) in let second = c.reduce_part-back.ensures.whole (omega (arith, size, is, c.in-Node.ensures.top.before_is)) in omega (arith, first, second, c.combine-front.ensures.one_step, c.combine.ensures.one_step, c.in-Node.ensures.top.height_is)

pub returns-else-from-count-clause-cost : goal.returns-else-from-count-clause-cost
returns-else-from-count-clause-cost g t c =
    let first = c.reduce_part-front.ensures.back (omega (arith, c.if-before-from.false, c.in-Node.ensures.top.before_is)) in let second = c.reduce_part-back.ensures.front refl in omega (arith, first, second, c.combine-front.ensures.one_step, c.combine.ensures.one_step, c.in-Node.ensures.top.height_is)
