-- What is tested of the points 2 to 5.
use Rattle.std.specs.Prelude.{◌≡◌, ◌==◌, ◌<◌, ◌≤◌, ℕ, List, length, filter, All, nat_lt, nat_le}
use Rattle.std.specs.List.Sorted.{IsNonDecreasingBy}
use Rattle.serve_text.specs.Records.{Answered, answered_of}
use Rattle.run_check.specs.declared.placed.Placed.{Placed}

-- batches in record order, the same in the order of a run, and reads pass the test of a point
pub record Passes {O Q : Type 0} (placed ordered : List (Placed O)) (reads : List (Answered Q)) (point : ℕ) : Type 0 where
  pub callers : point ≡ 2 → (c : ℕ) → IsNonDecreasingBy (λ (p : Placed O). p.entry.tag) (filter (λ (p : Placed O). p.entry.caller == c) ordered)
  pub rounds : point ≡ 3 → IsNonDecreasingBy (λ (p : Placed O). p.round) ordered
  pub bounds : point ≡ 4 → All (λ (a : Answered Q). (length (filter (λ (p : Placed O). nat_lt p.round a.asked.round) placed) ≤ a.number)
      × (a.number ≤ length (filter (λ (p : Placed O). nat_le p.round a.asked.round) placed))) reads
  pub never_falls : point ≡ 5 → (c : ℕ) → IsNonDecreasingBy (λ (a : Answered Q). a.number) (answered_of c reads)

-- all that is less holds, and this does not
pub record IsLeastFailing (holds : ℕ → Type 0) (point : ℕ) : Type 0 where
  pub low : 2 ≤ point
  pub high : point ≤ 5
  pub lesser : (k : ℕ) → k < point → holds k
  pub fails : ¬ (holds point)
