use Rattle.std.proofs.lemmas.Grind.{common_steps}
use Rattle.std.proofs.Common.{sym, subst, take-append-drop, arith}
use Rattle.map_model.specs.Entries.{IsIncreasing}
use Rattle.map_model.proofs.Keys.{IsIncreasing-front}
use Rattle.leaf_blocks.proofs.plain_leaf.PlainLeafLeaf.front.Goals as goal

pub invariant_of-result : goal.invariant_of-result
invariant_of-result g c =
    let entries = c.self.inside.entries.items in
    let whole = subst (IsIncreasing g.K.Ord.cmp) (sym (take-append-drop c.args.at entries)) c.self.invariant in
    rw (c.in_ok-entries.ensures, c.deref.ensures.value) (IsIncreasing-front g.K.Ord.cmp _ _ whole)
