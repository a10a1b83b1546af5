use Rattle.std.proofs.Common.{◌≡◌, ◌+◌, ◌<◌, length, ap, add_comm, arith}
use Rattle.bulk_ops.specs.Costs.{levels}
use Rattle.bulk_ops.proofs.Bounds.{combine_bound-comm}
use Rattle.bulk_ops.proofs.combining.cut_second.Goals as goal

pub returns-in-Split-clause-opened : goal.returns-in-Split-clause-opened
returns-in-Split-clause-opened g c =
    let front = c.in-Split.front in
    let back = c.in-Split.back in
    let count = length c.args.b.now.entries + length c.args.a.now.entries in
    let opened = rw c.in-Split.is at c.in_ok-tree.ensures.opened in
    let front_less : length front.0.entries + length front.1.entries < count = opened.3 in
    let back_less : length back.0.entries + length back.1.entries < count = opened.4 in
    (record { whole = opened.0.whole; increasing = opened.0.increasing }, tt, tt, omega arith, omega arith)

pub returns-in-Done-clause-cost : goal.returns-in-Done-clause-cost
returns-in-Done-clause-cost g c =
    let opened = rw c.in-Done.is at c.in_ok-tree.ensures.cost in
    rw (combine_bound-comm g.M.Shape.BLOCK g.M.Leaf.Leaf.FIND (length c.args.a.now.entries) (length c.args.b.now.entries)) opened

pub returns-in-Split-clause-cost : goal.returns-in-Split-clause-cost
returns-in-Split-clause-cost g c =
    let block = g.M.Shape.BLOCK in
    let find = g.M.Leaf.Leaf.FIND in
    let a = length c.args.a.now.entries in
    let b = length c.args.b.now.entries in
    let opened = rw c.in-Split.is at c.in_ok-tree.ensures.cost in
    let front = combine_bound-comm block find (length c.in-Split.front.0.entries) (length c.in-Split.front.1.entries) in
    let back = combine_bound-comm block find (length c.in-Split.back.0.entries) (length c.in-Split.back.1.entries) in
    let whole = combine_bound-comm block find a b in
    let deep : levels (a + b + 2) ≡ levels (b + a + 2) = ap (λ w. levels (w + 2)) (add_comm a b) in
    rw (← front, ← back, whole, deep) opened
