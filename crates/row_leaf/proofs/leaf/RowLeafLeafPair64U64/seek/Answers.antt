use Rattle.std.proofs.Common.{ℕ, List, subst}
use Rattle.std.specs.Prelude.{IsTrue, IsSome}
use Rattle.aug_monoid.specs.declared.pair64.Pair64.{Pair64}
use Rattle.aug_monoid.specs.Exact.{pair64_cmp}
use Rattle.map_model.specs.Entries.{lookup}
use Rattle.row_leaf.proofs.leaf.RowLeafLeafPair64U64.seek.Goals as goal

pub returns-clause-hit : goal.returns-clause-hit
returns-clause-hit g c =
    let hit = c.seek_key.result.hit in
    let P : List (Pair64 × ℕ) → Type 0 = λ es. (IsTrue hit → IsSome (lookup pair64_cmp es c.args.key.now)) × (IsSome (lookup pair64_cmp es c.args.key.now) → IsTrue hit) in
    subst P c.self.view_is c.seek_key.ensures.hit
