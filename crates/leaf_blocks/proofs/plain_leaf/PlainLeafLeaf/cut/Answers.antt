use Rattle.std.proofs.Common.{◌≡◌, ℕ, ◌+◌, List, [], ◌∷◌, ◌++◌, take, drop, sym, ap, ◌∙◌, subst, append_assoc, take-append-drop}
use Rattle.map_model.specs.Entries.{IsIncreasing}
use Rattle.map_model.proofs.Keys.{IsIncreasing-front, around}
use Rattle.leaf_blocks.proofs.plain_leaf.PlainLeafLeaf.cut.Goals as goal

-- a list whose end was taken off it, and then its last entry
whole_of : {E : Type 0} (all front : List E) (middle : E) (back kept : List E) (n : ℕ) → kept ≡ take n all → back ≡ drop n all → kept ≡ front ++ middle ∷ [] → all ≡ front ++ middle ∷ back
whole_of all front middle back kept n kept_is back_is popped =
    rw back_is (sym (take-append-drop n all) ∙ ap (λ x. x ++ drop n all) (sym kept_is ∙ popped) ∙ append_assoc front (middle ∷ []) (drop n all))

pub invariant_of-result : goal.invariant_of-result
invariant_of-result g c =
    let whole = whole_of c.self.inside.entries.items c.pop.new.self.items c.in-Some.middle c.in_ok-back.back.items c.split_off.new.self.items (c.args.at + 1) c.in_ok-back.ensures.items c.in_ok-back.ensures.tail c.in-Some.ensures.items in
    rw c.shrink_to_fit.ensures.items (IsIncreasing-front g.K.Ord.cmp c.pop.new.self.items (c.in-Some.middle ∷ c.in_ok-back.back.items) (subst (IsIncreasing g.K.Ord.cmp) whole c.self.invariant))

pub invariant_of-result-2 : goal.invariant_of-result-2
invariant_of-result-2 g c =
    let whole = whole_of c.self.inside.entries.items c.pop.new.self.items c.in-Some.middle c.in_ok-back.back.items c.split_off.new.self.items (c.args.at + 1) c.in_ok-back.ensures.items c.in_ok-back.ensures.tail c.in-Some.ensures.items in
    (around g.K.Ord.cmp c.pop.new.self.items c.in-Some.middle.0 c.in-Some.middle.1 c.in_ok-back.back.items (subst (IsIncreasing g.K.Ord.cmp) whole c.self.invariant)).right

pub returns-clause-whole : goal.returns-clause-whole
returns-clause-whole g c =
    let whole = whole_of c.self.inside.entries.items c.pop.new.self.items c.in-Some.middle c.in_ok-back.back.items c.split_off.new.self.items (c.args.at + 1) c.in_ok-back.ensures.items c.in_ok-back.ensures.tail c.in-Some.ensures.items in
    rw (← c.self.view_is, c.shrink_to_fit.ensures.items) whole
