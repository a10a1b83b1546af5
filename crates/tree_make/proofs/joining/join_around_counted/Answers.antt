use Rattle.std.proofs.Common.{IfOk, ◌≡◌, ◌++◌, subst, sym}
use Rattle.std.specs.List.{cons_option}
use Rattle.tree_make.proofs.joining.join_around_counted.Goals as goal

pub returns-in-None-clause-entries : goal.returns-in-None-clause-entries
returns-in-None-clause-entries g c = subst (λ m. IfOk c.join_without.result (λ tree. tree.entries ≡ c.args.left.entries ++ cons_option m c.args.right.entries)) (sym c.in-None.is) c.join_without.ensures.entries
