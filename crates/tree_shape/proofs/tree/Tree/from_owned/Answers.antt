use Rattle.std.proofs.Common.{rules, ◌≡◌, length}
use Rattle.tree_shape.proofs.Halves.{taken_whole}
use Rattle.tree_shape.proofs.tree.Tree.from_owned.Goals as goal

pub returns-clause-entries : goal.returns-clause-entries
returns-clause-entries g c =
    let counted : c.len-count.result ≡ length c.args.from.items = search rules in
    taken_whole c.take_last.result (λ tree. tree.entries) c.args.from.items c.take_last.new.from.items c.len-count.result c.take_last.ensures.entries c.take_last.ensures.count counted
