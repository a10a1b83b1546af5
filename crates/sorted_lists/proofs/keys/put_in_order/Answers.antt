use Rattle.std.proofs.Common.{◌≡◌, ◌++◌, take, drop, length, arith, rules, subst}
use Rattle.std.proofs.lemmas.Grind.{common_steps}
use Rattle.std.specs.List.Sorted.{IsPermutation}
use Rattle.sorted_lists.proofs.KeySets.{sorted_set}
use Rattle.sorted_lists.proofs.keys.put_in_order.Goals as goal

pub returns : goal.returns
returns g c =
    let keys = c.args.keys.now in
    let sorted = c.sort_keys.new.keys in
    let whole : take keys.len (sorted ++ drop (length sorted) keys.items) ≡ sorted = grind (arith, common_steps) in
    let kept = c.keep_first_of_each.ensures in
    let is : c.as_mut_slice.result.now ≡ keys.items = search rules in
    let same : IsPermutation keys.items sorted = subst (λ xs. IsPermutation xs sorted) is c.sort_keys.ensures.same in
    rw (kept, whole) (sorted_set g.met.K.Ord.total g.met.K.Key.exact keys.items sorted c.sort_keys.ensures.sorted same)
