-- The order of keys, and an entry at a place.
use Rattle.std.proofs.Common.{◌≡◌, ℕ, List, map, Some, ap, ◌∙◌}
use Rattle.std.specs.List.{slice_get}
use Rattle.std.specs.Option.{option_map}
use Rattle.std.specs.Cmp.{IsTotalOrder}
use Rattle.std.proofs.lemmas.Cmp.{nat_cmp_total, on_total, then_total}
use Rattle.std.proofs.lemmas.Option.{slice_get-map}
use Rattle.aug_monoid.specs.declared.pair64.Pair64.{Pair64}
use Rattle.aug_monoid.specs.Exact.{pair64_cmp}
use Rattle.row_leaf.specs.declared.cell.Cell.{Cell}
use Rattle.row_leaf.specs.Code.{cell, place_entry}

pub pair_total : IsTotalOrder pair64_cmp
pair_total = then_total (on_total (λ (p : Pair64). p.first) nat_cmp_total) (on_total (λ (p : Pair64). p.second) nat_cmp_total)

-- a row and a cell at a place are an entry there
pub placed : (cells : List (ℕ × Cell)) (i : ℕ) (key : Pair64) (weight : ℕ) → slice_get cells i ≡ Some (key.first, cell key.second weight) → slice_get (map place_entry cells) i ≡ Some (key, weight)
placed cells i key weight got = slice_get-map place_entry cells i ∙ ap (option_map place_entry) got
