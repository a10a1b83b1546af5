-- Of keys that rise the rows do not fall.
use Rattle.std.proofs.Common.{◌≡◌, ℕ, ◌≤◌, List, [], ◌∷◌, map, arith}
use Rattle.std.specs.declared.cmp.Ordering.TheVariants.{Less}
use Rattle.std.proofs.lemmas.Bool.Decides.{nat_tests}
use Rattle.aug_monoid.specs.declared.pair64.Pair64.{Pair64}
use Rattle.aug_monoid.specs.Exact.{pair64_cmp}
use Rattle.map_model.specs.Entries.{AllKeys, IsIncreasing}
use Rattle.gap_code.specs.Code.{NotFalling}
use Rattle.row_leaf.specs.declared.cell.Cell.{Cell}
use Rattle.row_leaf.specs.Code.{place_entry}

not_less : (a b : Pair64) → pair64_cmp a b ≡ Less → a.first ≤ b.first
not_less a b h = grind (arith, nat_tests)

falling_from : (cells : List (ℕ × Cell)) (before : Pair64) → AllKeys (λ k. pair64_cmp before k ≡ Less) (map place_entry cells) → IsIncreasing pair64_cmp (map place_entry cells) → NotFalling before.first cells
falling_from [] before a s = tt
falling_from (e ∷ cells) before a s = (not_less before (place_entry e).0 a.0, falling_from cells (place_entry e).0 s.0 s.1)

pub falling : (cells : List (ℕ × Cell)) → IsIncreasing pair64_cmp (map place_entry cells) → NotFalling 0 cells
falling [] s = tt
falling (e ∷ cells) s = (omega arith, falling_from cells (place_entry e).0 s.0 s.1)
