use Rattle.std.proofs.Common.{◌+◌, ◌<◌, ◌∷◌, ◌++◌, length, take, drop, sym, subst, add-one}
use Rattle.std.proofs.lemmas.List.{set_split}
use Rattle.map_model.specs.Entries.{IsIncreasing}
use Rattle.leaf_blocks.proofs.plain_leaf.PlainLeafLeafMut.set_at.Goals as goal

pub invariant_of-self : goal.invariant_of-self
invariant_of-self g c =
    let items = c.self.inside.entries.items in
    let within : c.args.at < length items = subst (λ l. c.args.at < length l) (sym c.self.view_is) c.requires.inside in
    let split = set_split items c.args.at (c.args.key, c.args.val) within in
    let rises = subst (λ l. IsIncreasing g.K.Ord.cmp (take c.args.at l ++ (c.args.key, c.args.val) ∷ drop (c.args.at + 1) l)) (sym c.self.view_is) c.requires.increasing in
    subst (IsIncreasing g.K.Ord.cmp) (sym split) (rw add-one at rises)

pub returns-clause-set : goal.returns-clause-set
returns-clause-set g c =
    let items = c.self.inside.entries.items in
    let within : c.args.at < length items = subst (λ l. c.args.at < length l) (sym c.self.view_is) c.requires.inside in
    rw (← c.self.view_is, add-one) (set_split items c.args.at (c.args.key, c.args.val) within)
