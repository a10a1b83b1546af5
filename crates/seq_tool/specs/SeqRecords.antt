-- The records of the tool seq.
use Rattle.std.specs.Prelude.{◌<◌, ℕ, Result, Err, codes, if◌then◌else◌}
use Rattle.script.specs.Records.{Fields}
use Rattle.script.specs.Rows.{has_verb, makes₁, makes₂, makes₃}
use Rattle.script.specs.Shapes as shape
use Rattle.script.specs.declared.fault.Code.{Code}
use Rattle.script.specs.declared.fault.Code.TheVariants as code
use Rattle.seq_tool.specs.declared.commands.SeqCommand.{SeqCommand}
use Rattle.seq_tool.specs.declared.commands.SeqCommand.TheVariants as command

-- the verbs that ask
unfoldable pub asking_command : ℕ → Fields → Result SeqCommand Code
asking_command place r =
    if has_verb r (codes "at") then makes₂ (command.At place) (shape.register_number r)
    else if has_verb r (codes "fold") then makes₃ (command.Fold place) (shape.register_number_number r)
    else if has_verb r (codes "list") then makes₃ (command.List place) (shape.register_number_number r)
    else if has_verb r (codes "size") then makes₁ (command.Size place) (shape.register r)
    else Err code.Verb

-- those that make a register of one or two others
unfoldable pub making_command : ℕ → Fields → Result SeqCommand Code
making_command place r =
    if has_verb r (codes "append") then makes₃ (command.Append place) (shape.three_registers r)
    else if has_verb r (codes "take") then makes₃ (command.Take place) (shape.two_registers_number r)
    else if has_verb r (codes "skip") then makes₃ (command.Skip place) (shape.two_registers_number r)
    else if has_verb r (codes "reverse") then makes₂ (command.Reverse place) (shape.two_registers r)
    else asking_command place r

-- what the record with this number says: a row for each verb, with its fields
unfoldable pub seq_command : ℕ → Fields → Result SeqCommand Code
seq_command place r =
    if has_verb r (codes "push") then makes₂ (command.Push place) (shape.register_numbers r)
    else if has_verb r (codes "set") then makes₃ (command.Set place) (shape.register_number_number r)
    else making_command place r

-- the registers of a command are 0 to 15
abbrev pub NamesRegisters : SeqCommand → Type 0
NamesRegisters (command.Push place d items) = d < 16
NamesRegisters (command.Append place d a b) = (d < 16) × (a < 16) × (b < 16)
NamesRegisters (command.Take place d m n) = (d < 16) × (m < 16)
NamesRegisters (command.Skip place d m n) = (d < 16) × (m < 16)
NamesRegisters (command.Reverse place d m) = (d < 16) × (m < 16)
NamesRegisters (command.Set place d i v) = d < 16
NamesRegisters (command.At place m i) = m < 16
NamesRegisters (command.Fold place m i n) = m < 16
NamesRegisters (command.List place m i n) = m < 16
NamesRegisters (command.Size place m) = m < 16
