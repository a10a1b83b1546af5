-- What the definition of the replies gives on worked examples.
use Rattle.std.proofs.Common.{◌≡◌, [], ◌∷◌, ℕ, List, codes, flat_map, refl}
use Rattle.aug_monoid.specs.declared.pair64.Pair64.{Pair64}
use Rattle.map_tool.specs.Effects.{map_after, map_reply}
use Rattle.map_tool.specs.Registers.{empty_registers}
use Rattle.map_tool.specs.Values.{range_totals, totals_of}
use Rattle.script.specs.Replies.{replies}
use Rattle.pam_top.specs.Sample.{number_at, sample_commands}
use Rattle.script.specs.Lines.{line_of}
use Rattle.map_records.specs.declared.how.How.TheVariants as how
use Rattle.map_records.specs.declared.commands.MapCommand.{MapCommand}
use Rattle.map_records.specs.declared.commands.MapCommand.TheVariants as command

abbrev text_of : List MapCommand → List ℕ
text_of commands = replies map_reply map_after empty_registers commands

abbrev pub lines : List (List ℕ × List ℕ) → List ℕ
lines texts = flat_map (λ t. line_of t.0 t.1) texts

abbrev pub pair : ℕ → ℕ → Pair64
pair key val = record { first = key; second = val }

-- unions, an intersection, differences, and maps that overlap
set_operations : text_of (
    command.Build 0 (pair 1 10 ∷ pair 3 30 ∷ pair 5 50 ∷ []) ∷
    command.Build 1 (pair 3 4 ∷ pair 4 40 ∷ []) ∷
    command.Union 2 0 1 how.Sum ∷
    command.Fold 2 ∷
    command.Union 3 0 1 how.First ∷
    command.Get 3 3 ∷
    command.Inter 3 0 1 how.Second ∷
    command.Get 3 3 ∷
    command.Diff 4 0 1 ∷
    command.List 4 0 9 ∷
    command.Cat 5 4 1 ∷
    command.Size 5 ∷
    command.Diff 5 0 0 ∷
    []) ≡ lines (
    (codes "ok", 3 ∷ []) ∷ (codes "ok", 2 ∷ []) ∷ (codes "ok", 4 ∷ []) ∷ (codes "aug", 134 ∷ 50 ∷ []) ∷ (codes "ok", 4 ∷ []) ∷ (codes "some", 30 ∷ []) ∷ (codes "ok", 1 ∷ []) ∷ (codes "some", 4 ∷ []) ∷ (codes "ok", 2 ∷ []) ∷ (codes "list", 2 ∷ 1 ∷ 10 ∷ 5 ∷ 50 ∷ []) ∷ (codes "overlap", []) ∷ (codes "size", 0 ∷ []) ∷ (codes "ok", 0 ∷ []) ∷ [])
unfolding range_totals totals_of
set_operations = refl

-- parts by keys and by values, places and neighbours
parts : text_of (
    command.Build 2 (pair 1 10 ∷ pair 3 34 ∷ pair 4 40 ∷ pair 5 50 ∷ []) ∷
    command.Below 6 2 4 ∷
    command.Above 8 2 4 ∷
    command.Cat 9 6 8 ∷
    command.Rank 2 4 ∷
    command.Select 2 3 ∷
    command.Select 2 4 ∷
    command.Next 2 3 ∷
    command.Prev 2 1 ∷
    command.Atleast 10 2 40 ∷
    command.Filter 11 2 30 40 ∷
    command.Count 2 30 40 ∷
    command.Max 2 2 4 ∷
    []) ≡ lines (
    (codes "ok", 4 ∷ []) ∷ (codes "ok", 2 ∷ []) ∷ (codes "ok", 1 ∷ []) ∷ (codes "ok", 3 ∷ []) ∷ (codes "rank", 2 ∷ []) ∷ (codes "entry", 5 ∷ 50 ∷ []) ∷ (codes "none", []) ∷ (codes "entry", 4 ∷ 40 ∷ []) ∷ (codes "none", []) ∷ (codes "ok", 2 ∷ []) ∷ (codes "ok", 2 ∷ []) ∷ (codes "count", 2 ∷ []) ∷ (codes "max", 40 ∷ []) ∷ [])
unfolding range_totals totals_of
parts = refl

-- batches, a copy that stays, and a slice
batches : text_of (
    command.Build 0 (pair 1 10 ∷ pair 3 30 ∷ pair 5 50 ∷ []) ∷
    command.Copy 13 0 ∷
    command.Mput 0 (pair 7 70 ∷ pair 7 71 ∷ []) ∷
    command.Get 0 7 ∷
    command.Mdel 0 (1 ∷ 2 ∷ []) ∷
    command.Slice 12 0 4 9 ∷
    command.Clear 0 ∷
    command.Size 13 ∷
    command.Size 12 ∷
    []) ≡ lines (
    (codes "ok", 3 ∷ []) ∷ (codes "ok", 3 ∷ []) ∷ (codes "ok", 4 ∷ []) ∷ (codes "some", 71 ∷ []) ∷ (codes "ok", 3 ∷ []) ∷ (codes "ok", 2 ∷ []) ∷ (codes "ok", 0 ∷ []) ∷ (codes "size", 3 ∷ []) ∷ (codes "size", 2 ∷ []) ∷ [])
unfolding range_totals totals_of
batches = refl

-- registers apart from one another
registers : text_of (
    command.Put 0 5 10 ∷
    command.Put 15 6 7 ∷
    command.Copy 1 15 ∷
    command.Del 1 6 ∷
    command.Fold 0 ∷
    command.List 15 0 9 ∷
    command.Size 1 ∷
    command.Clear 0 ∷
    command.Get 0 5 ∷
    []) ≡ lines (
    (codes "ok", 1 ∷ []) ∷ (codes "ok", 1 ∷ []) ∷ (codes "ok", 1 ∷ []) ∷ (codes "ok", 0 ∷ []) ∷ (codes "aug", 10 ∷ 10 ∷ []) ∷ (codes "list", 1 ∷ 6 ∷ 7 ∷ []) ∷ (codes "size", 0 ∷ []) ∷ (codes "ok", 0 ∷ []) ∷ (codes "none", []) ∷ [])
unfolding range_totals totals_of
registers = refl

-- a map behind another one
ends : text_of (
    command.Put 0 1 10 ∷
    command.Put 1 2 20 ∷
    command.Cat 2 0 1 ∷
    command.Cat 3 1 0 ∷
    command.Cat 4 0 9 ∷
    command.Size 2 ∷
    []) ≡ lines (
    (codes "ok", 1 ∷ []) ∷ (codes "ok", 1 ∷ []) ∷ (codes "ok", 2 ∷ []) ∷ (codes "overlap", []) ∷ (codes "ok", 1 ∷ []) ∷ (codes "size", 2 ∷ []) ∷ [])
unfolding range_totals totals_of
ends = refl

-- the sample of one pair from the seed 0
sample : text_of (sample_commands 0 1) ≡ lines (
    (codes "ok", 1 ∷ []) ∷ (codes "ok", 1 ∷ []) ∷ (codes "ok", 1 ∷ []) ∷ (codes "ok", 1 ∷ []) ∷ (codes "ok", 0 ∷ []) ∷ (codes "aug", 527343 ∷ 527343 ∷ []) ∷ (codes "aug", 420705 ∷ 420705 ∷ []) ∷ (codes "aug", 0 ∷ 0 ∷ []) ∷ [])
unfolding range_totals totals_of number_at sample_commands
sample = refl
