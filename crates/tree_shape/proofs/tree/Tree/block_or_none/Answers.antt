use Rattle.std.proofs.Common.{◌≡◌, [], sym, ◌∙◌, refl}
use Rattle.std.proofs.lemmas.List.{nil_from_length}
use Rattle.tree_shape.proofs.tree.Tree.block_or_none.Goals as goal

pub returns-then-len-eq0-clause-entries : goal.returns-then-len-eq0-clause-entries
returns-then-len-eq0-clause-entries g c =
    let none : g.M.Leaf.Leaf.entries c.args.leaf ≡ [] = nil_from_length (g.M.Leaf.Leaf.entries c.args.leaf) (sym c.len.ensures.value ∙ c.if-len-eq0.true) in
    rw (c.empty.ensures, none) refl
