-- The tool sample: commands of the tool map over pairs that a generator makes.
use Rattle.std.specs.Prelude.{ℕ, zero, suc, ◌+◌, ◌*◌, ◌/◌, ◌%◌, ◌^◌, List, [], ◌∷◌, map}
use Rattle.std.specs.List.{range_with_len}
use Rattle.aug_monoid.specs.declared.pair64.Pair64.{Pair64}
use Rattle.map_records.specs.declared.how.How.TheVariants as how
use Rattle.map_records.specs.declared.commands.MapCommand.{MapCommand}
use Rattle.map_records.specs.declared.commands.MapCommand.TheVariants as command

-- the number of the generator after this one
abbrev pub next_number : ℕ → ℕ
next_number x = (x * 6364136223846793005 + 1442695040888963407) % 2 ^ 64

-- its n-th number from this one on, which is the one at 0
unfoldable pub number_at : ℕ → ℕ → ℕ
number_at x zero = x
number_at x (suc n) = next_number (number_at x n)

-- the pair at a place, from 0, in a sample of a size: two numbers make one
abbrev pub pair_at : ℕ → ℕ → ℕ → Pair64
pair_at size x i = record { first = number_at x (2 * i + 1) / 2 ^ 32 % (2 * size); second = number_at x (2 * i + 2) / 2 ^ 44 }

-- as many pairs as the size says
abbrev pub sample_pairs : ℕ → ℕ → List Pair64
sample_pairs size x = map (pair_at size x) (range_with_len 0 size)

-- two maps of these pairs, their union, intersection and difference, and the folds of these
abbrev pub commands_over : List Pair64 → List Pair64 → List MapCommand
commands_over ps qs =
    command.Build 0 ps ∷
    command.Build 1 qs ∷
    command.Union 2 0 1 how.Sum ∷
    command.Inter 3 0 1 how.Max ∷
    command.Diff 4 0 1 ∷
    command.Fold 2 ∷
    command.Fold 3 ∷
    command.Fold 4 ∷
    []

-- the commands for a seed and a size: the first pairs that the generator makes, and the next ones
unfoldable pub sample_commands : ℕ → ℕ → List MapCommand
sample_commands seed size = commands_over (sample_pairs size seed) (sample_pairs size (number_at seed (2 * size)))
