-- What the opening of a part gives, and what the answers for its halves are.
use Rattle.std.specs.Prelude.{ℕ, ◌+◌, ◌<◌}
use Rattle.fork_join.specs.declared.work.Opened.{Opened}
use Rattle.fork_join.specs.declared.work.Opened.TheVariants.{Done, Split}

-- an answer for the part, or two smaller halves and what is between them
abbrev pub IsOpened : {P M O : Type 0} → (P → Type 0) → (O → Type 0) → (P → M → P → Type 0) → (P → ℕ) → ℕ → Opened P M O → Type 0
IsOpened fits answers divides extent whole (Done out) = answers out
IsOpened fits answers divides extent whole (Split front middle back) =
    divides front middle back × fits front × fits back × (extent front < whole) × (extent back < whole)

-- the answers for the two halves of some part
pub record AreHalves {P M O : Type 0} (answers : P → O → Type 0) (divides : P → P → M → P → Type 0) (left : O) (middle : M) (right : O) : Type 0 where
  pub part : P
  pub front : P
  pub back : P
  pub divided : divides part front middle back
  pub front_answer : answers front left
  pub back_answer : answers back right

-- the most steps that are left once a part is opened: none if it is done, else those of the halves and of the close
abbrev pub left_to_do : {P M O : Type 0} → (P → ℕ) → ℕ → Opened P M O → ℕ
left_to_do bound closing (Done _) = 0
left_to_do bound closing (Split front _ back) = bound front + bound back + closing
