-- The commands of the tool seq that are read name registers from 0 to 15.
use Rattle.std.proofs.Common.{ℕ, List, Result, IfOk, codes}
use Rattle.std.specs.List.{AllByRecursion}
use Rattle.script.proofs.Chosen.{either_way}
use Rattle.script.proofs.RegisterFacts.{IsLow, OneOf₂, OneOf₃, ThreeOf₃, TwoOf₂, TwoOf₃, register_lows, register_number_lows, register_number_number_lows, register_numbers_lows, three_registers_lows, two_registers_lows, two_registers_number_lows}
use Rattle.script.proofs.RowFacts.{all_keep, made₁, made₂, made₃}
use Rattle.script.specs.InOrder.{commands_from}
use Rattle.script.specs.Records.{Fields}
use Rattle.script.specs.Rows.{has_verb}
use Rattle.seq_tool.specs.SeqRecords.{NamesRegisters, asking_command, making_command, seq_command}
use Rattle.script.specs.declared.fault.Code.{Code}
use Rattle.seq_tool.specs.declared.commands.SeqCommand.{SeqCommand}

abbrev Lawful : Result SeqCommand Code → Type 0
Lawful read = IfOk read NamesRegisters

asking_lawful : (place : ℕ) (r : Fields) → Lawful (asking_command place r)
unfolding asking_command
asking_lawful place r =
    either_way Lawful (has_verb r (codes "at")) _ _ (made₂ NamesRegisters (OneOf₂ ℕ) _ _ (register_number_lows r) (λ f low. low))
    (either_way Lawful (has_verb r (codes "fold")) _ _ (made₃ NamesRegisters OneOf₃ _ _ (register_number_number_lows r) (λ f low. low))
    (either_way Lawful (has_verb r (codes "list")) _ _ (made₃ NamesRegisters OneOf₃ _ _ (register_number_number_lows r) (λ f low. low))
    (either_way Lawful (has_verb r (codes "size")) _ _ (made₁ NamesRegisters IsLow _ _ (register_lows r) (λ f low. low))
    tt)))

making_lawful : (place : ℕ) (r : Fields) → Lawful (making_command place r)
unfolding making_command
making_lawful place r =
    either_way Lawful (has_verb r (codes "append")) _ _ (made₃ NamesRegisters ThreeOf₃ _ _ (three_registers_lows r) (λ f low. low))
    (either_way Lawful (has_verb r (codes "take")) _ _ (made₃ NamesRegisters TwoOf₃ _ _ (two_registers_number_lows r) (λ f low. low))
    (either_way Lawful (has_verb r (codes "skip")) _ _ (made₃ NamesRegisters TwoOf₃ _ _ (two_registers_number_lows r) (λ f low. low))
    (either_way Lawful (has_verb r (codes "reverse")) _ _ (made₂ NamesRegisters TwoOf₂ _ _ (two_registers_lows r) (λ f low. low))
    (asking_lawful place r))))

lawful : (place : ℕ) (r : Fields) → Lawful (seq_command place r)
unfolding seq_command
lawful place r =
    either_way Lawful (has_verb r (codes "push")) _ _ (made₂ NamesRegisters (OneOf₂ (List ℕ)) _ _ (register_numbers_lows r) (λ f low. low))
    (either_way Lawful (has_verb r (codes "set")) _ _ (made₃ NamesRegisters OneOf₃ _ _ (register_number_number_lows r) (λ f low. low))
    (making_lawful place r))

-- what the records say names registers from 0 to 15
pub all_on_lists : (place : ℕ) (rs : List Fields) → IfOk (commands_from seq_command place rs) (AllByRecursion NamesRegisters)
all_on_lists = all_keep NamesRegisters seq_command lawful
