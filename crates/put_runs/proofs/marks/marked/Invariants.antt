use Rattle.std.proofs.Common.{◌≡◌, ℕ, ◌<◌, false, ◌==◌, length, get_or, take}
use Rattle.std.specs.List.{list_any}
use Rattle.put_runs.proofs.marks.marked.Given as goal

abbrev pub invariant-loop-place : goal.invariant-loop-place
invariant-loop-place l = record {
  len : length l.marks.items ≡ l.len;
  set : (p : ℕ) → p < l.len → get_or l.marks.items p false ≡ list_any (λ e. e.1 == p) (take l.place-index l.places);
}
