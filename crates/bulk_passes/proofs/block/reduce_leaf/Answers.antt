use Rattle.std.proofs.Common.{◌≡◌, [], take, sym, ◌∙◌, arith}
use Rattle.std.proofs.lemmas.List.{nil_from_length, take_all}
use Rattle.bulk_passes.proofs.block.reduce_leaf.Goals as goal

pub returns-then-count-eq0-clause-value : goal.returns-then-count-eq0-clause-value
returns-then-count-eq0-clause-value g c =
    let entries = g.L.Leaf.entries c.args.leaf.now in
    let none : entries ≡ [] = nil_from_length entries (sym c.len-count.ensures.value ∙ c.if-count-eq0.true) in
    rw none c.unit.ensures

pub returns-clause-value : goal.returns-clause-value
returns-clause-value g c =
    let entries = g.L.Leaf.entries c.args.leaf.now in
    let count = c.len-count.result in
    let whole : take count entries ≡ entries = take_all count entries (omega (arith, c.len-count.ensures.value)) in
    rw whole at (rw c.walk-walk.ensures.first at c.reduce_next.ensures.value)
