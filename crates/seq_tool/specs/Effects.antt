-- What the commands of the tool seq do to the registers, and what they reply.
use Rattle.std.specs.Prelude.{◌≡◌, [], ◌∷◌, ◌++◌, ℕ, List, Option, Some, None, length, codes, take, drop, reverse, nat_le, nat_lt, slice_get, slice_set, if◌then◌else◌}
use Rattle.aug_monoid.specs.Totals.{totals_base, totals_combine, totals_unit}
use Rattle.aug_monoid.specs.declared.totals.Totals.{Totals}
use Rattle.script.specs.Lines.{line_of}
use Rattle.seq_tool.specs.declared.commands.SeqCommand.{SeqCommand}
use Rattle.seq_tool.specs.declared.commands.SeqCommand.TheVariants as command
use Rattle.seq_core.specs.Sums.{sum_of}
use Rattle.seq_tool.specs.Registers.{Registers, register, with_register}
use Rattle.seq_tool.specs.declared.change.Change.{Change}

-- a register gets a list, and the reply is its size; or no register changes, and the reply is a line
pub data Effect : Type 0 where
  changes : ℕ → List ℕ → Effect
  replies : List ℕ → Effect

-- the most items of a sequence
abbrev pub most_items : ℕ
most_items = 16777216

-- a register gets a list, where that isn't too long
abbrev pub unless_long : ℕ → List ℕ → Effect
unless_long d items = if nat_le (length items) most_items then changes d items else replies (line_of (codes "long") [])

-- a register gets another item at a place of its list, where that has the place
abbrev pub set_where_there : ℕ → List ℕ → ℕ → ℕ → Effect
set_where_there d items i v = if nat_lt i (length items) then changes d (slice_set items i v) else replies (line_of (codes "none") [])

-- an item that may be absent
abbrev pub found_line : Option ℕ → List ℕ
found_line None = line_of (codes "none") []
found_line (Some v) = line_of (codes "some") (v ∷ [])

-- the first n items after the first i
abbrev pub run_of : List ℕ → ℕ → ℕ → List ℕ
run_of items i n = take n (drop i items)

-- the saturating sum and the greatest of numbers
abbrev pub totals_of : List ℕ → Totals
totals_of items = sum_of totals_base totals_unit totals_combine items

abbrev pub totals_line : Totals → List ℕ
totals_line t = line_of (codes "aug") (t.sum ∷ t.greatest ∷ [])

abbrev pub list_line : List ℕ → List ℕ
list_line items = line_of (codes "list") (length items ∷ items)

-- what a command does, from the registers before it
abbrev pub effect : Registers → SeqCommand → Effect
effect rs (command.Push place d items) = unless_long d (register rs d ++ items)
effect rs (command.Append place d a b) = unless_long d (register rs a ++ register rs b)
effect rs (command.Take place d m n) = changes d (take n (register rs m))
effect rs (command.Skip place d m n) = changes d (drop n (register rs m))
effect rs (command.Reverse place d m) = changes d (reverse (register rs m))
effect rs (command.Set place d i v) = set_where_there d (register rs d) i v
effect rs (command.At place m i) = replies (found_line (slice_get (register rs m) i))
effect rs (command.Fold place m i n) = replies (totals_line (totals_of (run_of (register rs m) i n)))
effect rs (command.List place m i n) = replies (list_line (run_of (register rs m) i n))
effect rs (command.Size place m) = replies (line_of (codes "size") (length (register rs m) ∷ []))

abbrev pub registers_after : Registers → Effect → Registers
registers_after rs (changes d items) = with_register rs d items
registers_after rs (replies text) = rs

abbrev pub reply_of : Effect → List ℕ
reply_of (changes d items) = line_of (codes "ok") (length items ∷ [])
reply_of (replies text) = text

-- the registers after a command
abbrev pub seq_after : Registers → SeqCommand → Registers
seq_after rs c = registers_after rs (effect rs c)

-- the reply to a command, from the registers before it
abbrev pub seq_reply : Registers → SeqCommand → List ℕ
seq_reply rs c = reply_of (effect rs c)

-- what a command does is this change of a register
abbrev pub IsChange : Effect → Change → Type 0
IsChange (changes d items) change = (change.d ≡ d) × (change.seq.items ≡ items)
IsChange (replies text) change = ⊥

-- it is this change, or none, and then the reply was appended to a text
abbrev pub IsEffect : Effect → Option Change → List ℕ → List ℕ → Type 0
IsEffect e (Some change) old new = IsChange e change × (new ≡ old)
IsEffect (changes d items) None old new = ⊥
IsEffect (replies line) None old new = new ≡ old ++ line
