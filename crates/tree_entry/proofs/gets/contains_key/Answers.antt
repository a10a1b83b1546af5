use Rattle.std.proofs.Common.{is_some, length, sym, ap, ◌∙◌, arith}
use Rattle.map_model.specs.Entries.{lookup}
use Rattle.map_model.proofs.Cuts.{length-around}
use Rattle.map_model.proofs.Lookups.{lookup_left, lookup_middle, lookup_right}
use Rattle.tree_entry.proofs.gets.contains_key.Goals as goal

pub down-preserved-in-Less : goal.down-preserved-in-Less
down-preserved-in-Less g c =
    let total = g.met.M.Key.Ord.total in
    let top = c.in-Node.ensures.top in
    let here = ap (λ es. lookup g.M.Key.Ord.cmp es c.args.key.now) top.entries_are in (
      c.down.invariant.0 ∙ here ∙ lookup_left total c.in-Node.left.now.entries c.in-Node.node_key.now _ c.in-Node.right.now.entries c.args.key.now top.increasing (sym c.in-Less.ensures.value),
      omega (arith, c.down.invariant.1, top.height_is, c.order.ensures.one_step),
    )

pub down-preserved : goal.down-preserved
down-preserved g c =
    let total = g.met.M.Key.Ord.total in
    let top = c.in-Node.ensures.top in
    let here = ap (λ es. lookup g.M.Key.Ord.cmp es c.args.key.now) top.entries_are in (
      c.down.invariant.0 ∙ here ∙ lookup_right total c.in-Node.left.now.entries c.in-Node.node_key.now _ c.in-Node.right.now.entries c.args.key.now top.increasing (sym c.in-Greater.ensures.value),
      omega (arith, c.down.invariant.1, top.height_is, c.order.ensures.one_step),
    )

pub down-smaller-in-Less : goal.down-smaller-in-Less
down-smaller-in-Less g c =
    omega (arith, ap length c.in-Node.ensures.top.entries_are ∙ length-around c.in-Node.left.now.entries _ c.in-Node.right.now.entries)

pub down-smaller : goal.down-smaller
down-smaller g c =
    omega (arith, ap length c.in-Node.ensures.top.entries_are ∙ length-around c.in-Node.left.now.entries _ c.in-Node.right.now.entries)

pub returns-in-Equal-clause-value : goal.returns-in-Equal-clause-value
returns-in-Equal-clause-value g c =
    let total = g.met.M.Key.Ord.total in
    let top = c.in-Node.ensures.top in
    let here = ap (λ es. lookup g.M.Key.Ord.cmp es c.args.key.now) top.entries_are in
    sym (ap is_some (c.down.invariant.0 ∙ here ∙ lookup_middle total c.in-Node.left.now.entries c.in-Node.node_key.now _ c.in-Node.right.now.entries c.args.key.now top.increasing (sym c.in-Equal.ensures.value)))
