use Rattle.std.proofs.Common.{◌≡◌, ◌↔◌, Bool, true, false, IsTrue, is_some, refl, sym}
use Rattle.map_model.specs.Entries.{lookup}
use Rattle.tree_entry.proofs.gets.is_in_leaf.Goals as goal

same_truth : (a b : Bool) → IsTrue a ↔ IsTrue b → a ≡ b
same_truth true true both = refl
same_truth true false both = sym (both.0 refl)
same_truth false true both = both.1 refl
same_truth false false both = refl

pub returns-clause-value : goal.returns-clause-value
returns-clause-value g c = same_truth c.seek.result.hit (is_some (lookup g.K.Ord.cmp (g.L.Leaf.entries c.args.leaf.now) c.args.key.now)) c.seek.ensures.hit
