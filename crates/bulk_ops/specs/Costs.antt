-- What it costs to combine two maps.
use Rattle.std.specs.Prelude.{ℕ, zero, suc, ◌+◌, ◌*◌, ◌^◌, ◌<◌, ◌≤◌, min, leb, length, Bool, if◌then◌else◌}
use Rattle.map_model.specs.Contents.{Contents}
use Rattle.fork_join.specs.declared.work.Opened.{Opened}
use Rattle.fork_join.specs.Openings.{left_to_do}
use Rattle.tree_make.specs.Costs.{join_cost}

-- how many numbers from 0 on pass one after another, of the first n
abbrev pub passing : (ℕ → Bool) → ℕ → ℕ
passing p zero = zero
passing p (suc n) = (if p zero then suc (passing (λ k. p (suc k)) n) else zero)

-- after how many losses of an eighth less than 1 is left of a weight
unfoldable pub levels : ℕ → ℕ
levels w = passing (λ k. leb (8 ^ k) (7 ^ k * w)) (8 * w)

-- the most that one step takes for maps of so many levels: a cut with its join, or a level of few entries' way down a tree; `find` is the cost of a search in a leaf
unfoldable pub step_cost : ℕ → ℕ → ℕ → ℕ
step_cost block find l = 128 * (l + 2) * (block + 2) + 2 * find

-- the most that a combination of maps of x and y entries takes: a step at each level for each entry of the lesser map
unfoldable pub combine_bound : ℕ → ℕ → ℕ → ℕ → ℕ
combine_bound block find x y = min x y * (levels (x + y + 2) + 1) * step_cost block find (levels (x + y + 2))

-- the most that the combination of a pair of maps takes, and what a join of the answers for its halves takes of it
abbrev pub pair_bound : {K V : Type 0} → ℕ → ℕ → Contents K V × Contents K V → ℕ
pair_bound block find pair = combine_bound block find (length pair.0.entries) (length pair.1.entries)

abbrev pub pair_closing : {K V : Type 0} → ℕ → Contents K V × Contents K V → ℕ
pair_closing block pair = join_cost block (levels (length pair.0.entries + length pair.1.entries + 2))

-- an opening of a pair of maps from some steps to others, which leaves for the halves and their join what they may take
abbrev pub IsOpenedWithin : {K V D T : Type 0} → ℕ → ℕ → Contents K V × Contents K V → ℕ → ℕ → Opened (Contents K V × Contents K V) D T → Type 0
IsOpenedWithin block find pair before after opened = after + left_to_do (pair_bound block find) (pair_closing block pair) opened ≤ before + pair_bound block find pair

-- lessened by an eighth so often, less than 1 is left of a weight
abbrev pub IsDeepEnough : ℕ → ℕ → Type 0
IsDeepEnough l w = 7 ^ l * w < 8 ^ l
