-- What the commands of the tool map do to the registers, and what they reply.
use Rattle.std.specs.Prelude.{◌≡◌, ◌<◌, [], ◌∷◌, ◌++◌, ℕ, List, Option, Some, None, Result, MatchResult, OnErr, OnOk, length, codes, if◌then◌else◌}
use Rattle.std.specs.Ordering.{nat_cmp}
use Rattle.map_model.specs.Contents.{Contents}
use Rattle.map_model.specs.Entries.{above, below, drop_key, lookup, set}
use Rattle.map_model.specs.Operations.{after, build, dels, puts}
use Rattle.map_model.specs.Parts.{next, prev, rank, select, slice}
use Rattle.map_model.specs.SetOperations.{difference, intersect, union}
use Rattle.aug_monoid.specs.declared.totals.Totals.{Totals}
use Rattle.script.specs.Lines.{counted, line_of}
use Rattle.map_records.specs.How.{resolved_by}
use Rattle.map_records.specs.declared.commands.MapCommand.{MapCommand}
use Rattle.map_records.specs.declared.commands.MapCommand.TheVariants as command
use Rattle.map_tool.specs.Registers.{Registers, maps_of, register, with_register}
use Rattle.map_tool.specs.declared.effect.Effect.{Effect as Made}
use Rattle.map_tool.specs.declared.effect.Effect.TheVariants as made
use Rattle.map_tool.specs.Values.{entries_of, entry_numbers, overlaps, range_totals, totals_of, values_from, values_within}

-- a register gets a map, and the reply is its size; or no register changes, and the reply is a line
pub data Effect : Type 0 where
  changes : ℕ → List (ℕ × ℕ) → Effect
  replies : List ℕ → Effect

-- a value that may be absent
abbrev pub found_line : Option ℕ → List ℕ
found_line None = line_of (codes "none") []
found_line (Some v) = line_of (codes "some") (v ∷ [])

-- an entry that may be absent
abbrev pub entry_line : Option (ℕ × ℕ) → List ℕ
entry_line None = line_of (codes "none") []
entry_line (Some e) = line_of (codes "entry") (e.0 ∷ e.1 ∷ [])

abbrev pub totals_line : Totals → List ℕ
totals_line t = line_of (codes "aug") (t.sum ∷ t.greatest ∷ [])

abbrev pub list_line : List (ℕ × ℕ) → List ℕ
list_line m = line_of (codes "list") (counted entry_numbers m)

-- a register gets one map behind another, unless they overlap
abbrev pub cat : ℕ → List (ℕ × ℕ) → List (ℕ × ℕ) → Effect
cat d a b = if overlaps a b then replies (line_of (codes "overlap") []) else changes d (a ++ b)

-- what a command does, from the registers before it
abbrev pub effect : Registers → MapCommand → Effect
effect rs (command.Put d k v) = changes d (set nat_cmp (register rs d) k v)
effect rs (command.Del d k) = changes d (drop_key nat_cmp (register rs d) k)
effect rs (command.Get m k) = replies (found_line (lookup nat_cmp (register rs m) k))
effect rs (command.Size m) = replies (line_of (codes "size") (length (register rs m) ∷ []))
effect rs (command.Sum m lo hi) = replies (totals_line (range_totals (register rs m) lo hi))
effect rs (command.Fold m) = replies (totals_line (totals_of (register rs m)))
effect rs (command.Max m lo hi) = replies (line_of (codes "max") ((range_totals (register rs m) lo hi).greatest ∷ []))
effect rs (command.Rank m k) = replies (line_of (codes "rank") (rank nat_cmp (register rs m) k ∷ []))
effect rs (command.Select m i) = replies (entry_line (select (register rs m) i))
effect rs (command.Next m k) = replies (entry_line (next nat_cmp (register rs m) k))
effect rs (command.Prev m k) = replies (entry_line (prev nat_cmp (register rs m) k))
effect rs (command.List m lo hi) = replies (list_line (slice nat_cmp (register rs m) lo hi))
effect rs (command.Count m lo hi) = replies (line_of (codes "count") (length (values_within (register rs m) lo hi) ∷ []))
effect rs (command.Copy d m) = changes d (register rs m)
effect rs (command.Clear d) = changes d []
effect rs (command.Build d pairs) = changes d (build nat_cmp (entries_of pairs))
effect rs (command.Mput d pairs) = changes d (after nat_cmp (register rs d) (puts (entries_of pairs)))
effect rs (command.Mdel d keys) = changes d (after nat_cmp (register rs d) (dels keys))
effect rs (command.Union d a b how) = changes d (union nat_cmp (resolved_by how) (register rs a) (register rs b))
effect rs (command.Inter d a b how) = changes d (intersect nat_cmp (resolved_by how) (register rs a) (register rs b))
effect rs (command.Diff d a b) = changes d (difference nat_cmp (register rs a) (register rs b))
effect rs (command.Cat d a b) = cat d (register rs a) (register rs b)
effect rs (command.Below d m k) = changes d (below nat_cmp (register rs m) k)
effect rs (command.Above d m k) = changes d (above nat_cmp (register rs m) k)
effect rs (command.Slice d m lo hi) = changes d (slice nat_cmp (register rs m) lo hi)
effect rs (command.Atleast d m t) = changes d (values_from (register rs m) t)
effect rs (command.Filter d m lo hi) = changes d (values_within (register rs m) lo hi)

abbrev pub registers_after : Registers → Effect → Registers
registers_after rs (changes d m) = with_register rs d m
registers_after rs (replies text) = rs

abbrev pub reply_of : Effect → List ℕ
reply_of (changes d m) = line_of (codes "ok") (length m ∷ [])
reply_of (replies text) = text

-- the registers after a command
abbrev pub map_after : Registers → MapCommand → Registers
map_after rs c = registers_after rs (effect rs c)

-- the reply to a command, from the registers before it
abbrev pub map_reply : Registers → MapCommand → List ℕ
map_reply rs c = reply_of (effect rs c)

-- a call has this effect on registers and a text: it appends the reply, or is refused and leaves both as they were
abbrev pub HasEffect : {E : Type 0} → Effect → Result (Unit {0}) E → List (Contents ℕ ℕ) → List (Contents ℕ ℕ) → List ℕ → List ℕ → Type 0
HasEffect e result old new text grown =
    MatchResult result (λ _. grown ≡ text ++ reply_of e) (λ _. grown ≡ text)
    × OnOk result (maps_of new ≡ registers_after (maps_of old) e)
    × OnErr result (new ≡ old)

-- what is done to registers, and replied
abbrev pub done : Registers → Made → Effect
done rs (made.Changes d map) = changes d map.entries
done rs (made.Puts d k v) = changes d (set nat_cmp (register rs d) k v)
done rs (made.Dels d k) = changes d (drop_key nat_cmp (register rs d) k)
done rs (made.Found val) = replies (found_line val)
done rs (made.Entry entry) = replies (entry_line entry)
done rs (made.Totals totals) = replies (totals_line totals)
done rs (made.List map) = replies (list_line map.entries)
done rs (made.Size size) = replies (line_of (codes "size") (size ∷ []))
done rs (made.Max greatest) = replies (line_of (codes "max") (greatest ∷ []))
done rs (made.Rank rank) = replies (line_of (codes "rank") (rank ∷ []))
done rs (made.Count count) = replies (line_of (codes "count") (count ∷ []))
done rs made.Overlap = replies (line_of (codes "overlap") [])

-- the register that changes is one of the sixteen
abbrev pub IsLow : Made → Type 0
IsLow (made.Changes d map) = d < 16
IsLow (made.Puts d k v) = d < 16
IsLow (made.Dels d k) = d < 16
IsLow made = Unit {0}

-- it does this to registers, of which it changes one of the sixteen
abbrev pub Does : Registers → Made → Effect → Type 0
Does rs made effect = (done rs made ≡ effect) × IsLow made
