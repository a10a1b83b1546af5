-- The commands of the tool map that are read name registers from 0 to 15.
use Rattle.std.proofs.Common.{◌<◌, ◌==◌, ℕ, List, Result, IfOk, length, codes}
use Rattle.std.specs.List.{AllByRecursion}
use Rattle.aug_monoid.specs.declared.pair64.Pair64.{Pair64}
use Rattle.map_records.specs.How.{how_in, three_registers_how}
use Rattle.map_records.specs.MapRecords.{HasRegisters, entry_command, joint_command, map_command, part_command, range_command}
use Rattle.map_records.specs.declared.commands.MapCommand.{MapCommand}
use Rattle.map_records.specs.declared.how.How.{How}
use Rattle.script.proofs.Chosen.{either_way}
use Rattle.script.proofs.RegisterFacts.{IsLow, OneOf₂, OneOf₃, ThreeOf₃, TwoOf₂, TwoOf₃, TwoOf₄, register_lows, register_number_lows, register_number_number_lows, register_numbers_lows, register_pairs_lows, register_some_pairs_lows, then_low, three_registers_lows, two_registers_lows, two_registers_number_lows, two_registers_number_number_lows}
use Rattle.script.proofs.RowFacts.{all_keep, made₁, made₂, made₃, made₄, then_any, where_it_fits}
use Rattle.script.specs.InOrder.{commands_from}
use Rattle.script.specs.Records.{Fields}
use Rattle.script.specs.Rows.{has_verb}
use Rattle.script.specs.declared.fault.Code.{Code}

abbrev ThreeOf₄ : ℕ × ℕ × ℕ × How → Type 0
ThreeOf₄ f = (f.0 < 16) × (f.1 < 16) × (f.2 < 16)

abbrev Lawful : Result MapCommand Code → Type 0
Lawful read = IfOk read HasRegisters

three_registers_how_lows : (r : Fields) → IfOk (three_registers_how r) ThreeOf₄
three_registers_how_lows r = where_it_fits ThreeOf₄ (length r == 5) _ (
    then_low ThreeOf₄ r 1 _ (λ a low. then_low ThreeOf₄ r 2 _ (λ b second. then_low ThreeOf₄ r 3 _ (λ c third. then_any ThreeOf₄ (how_in r 4) _ (λ d. (low, second, third))))))

-- a row for each verb
part_lawful : (r : Fields) → Lawful (part_command r)
unfolding part_command
part_lawful r =
    either_way Lawful (has_verb r (codes "below")) _ _ (made₃ HasRegisters TwoOf₃ _ _ (two_registers_number_lows r) (λ f low. low))
    (either_way Lawful (has_verb r (codes "above")) _ _ (made₃ HasRegisters TwoOf₃ _ _ (two_registers_number_lows r) (λ f low. low))
    (either_way Lawful (has_verb r (codes "slice")) _ _ (made₄ HasRegisters TwoOf₄ _ _ (two_registers_number_number_lows r) (λ f low. low))
    (either_way Lawful (has_verb r (codes "atleast")) _ _ (made₃ HasRegisters TwoOf₃ _ _ (two_registers_number_lows r) (λ f low. low))
    (either_way Lawful (has_verb r (codes "filter")) _ _ (made₄ HasRegisters TwoOf₄ _ _ (two_registers_number_number_lows r) (λ f low. low))
    tt))))

joint_lawful : (r : Fields) → Lawful (joint_command r)
unfolding joint_command
joint_lawful r =
    either_way Lawful (has_verb r (codes "copy")) _ _ (made₂ HasRegisters TwoOf₂ _ _ (two_registers_lows r) (λ f low. low))
    (either_way Lawful (has_verb r (codes "union")) _ _ (made₄ HasRegisters ThreeOf₄ _ _ (three_registers_how_lows r) (λ f low. low))
    (either_way Lawful (has_verb r (codes "inter")) _ _ (made₄ HasRegisters ThreeOf₄ _ _ (three_registers_how_lows r) (λ f low. low))
    (either_way Lawful (has_verb r (codes "diff")) _ _ (made₃ HasRegisters ThreeOf₃ _ _ (three_registers_lows r) (λ f low. low))
    (either_way Lawful (has_verb r (codes "cat")) _ _ (made₃ HasRegisters ThreeOf₃ _ _ (three_registers_lows r) (λ f low. low))
    (part_lawful r)))))

range_lawful : (r : Fields) → Lawful (range_command r)
unfolding range_command
range_lawful r =
    either_way Lawful (has_verb r (codes "sum")) _ _ (made₃ HasRegisters OneOf₃ _ _ (register_number_number_lows r) (λ f low. low))
    (either_way Lawful (has_verb r (codes "max")) _ _ (made₃ HasRegisters OneOf₃ _ _ (register_number_number_lows r) (λ f low. low))
    (either_way Lawful (has_verb r (codes "list")) _ _ (made₃ HasRegisters OneOf₃ _ _ (register_number_number_lows r) (λ f low. low))
    (either_way Lawful (has_verb r (codes "count")) _ _ (made₃ HasRegisters OneOf₃ _ _ (register_number_number_lows r) (λ f low. low))
    (joint_lawful r))))

entry_lawful : (r : Fields) → Lawful (entry_command r)
unfolding entry_command
entry_lawful r =
    either_way Lawful (has_verb r (codes "get")) _ _ (made₂ HasRegisters (OneOf₂ ℕ) _ _ (register_number_lows r) (λ f low. low))
    (either_way Lawful (has_verb r (codes "size")) _ _ (made₁ HasRegisters IsLow _ _ (register_lows r) (λ f low. low))
    (either_way Lawful (has_verb r (codes "fold")) _ _ (made₁ HasRegisters IsLow _ _ (register_lows r) (λ f low. low))
    (either_way Lawful (has_verb r (codes "rank")) _ _ (made₂ HasRegisters (OneOf₂ ℕ) _ _ (register_number_lows r) (λ f low. low))
    (either_way Lawful (has_verb r (codes "select")) _ _ (made₂ HasRegisters (OneOf₂ ℕ) _ _ (register_number_lows r) (λ f low. low))
    (either_way Lawful (has_verb r (codes "next")) _ _ (made₂ HasRegisters (OneOf₂ ℕ) _ _ (register_number_lows r) (λ f low. low))
    (either_way Lawful (has_verb r (codes "prev")) _ _ (made₂ HasRegisters (OneOf₂ ℕ) _ _ (register_number_lows r) (λ f low. low))
    (range_lawful r)))))))

lawful : (r : Fields) → Lawful (map_command r)
unfolding map_command
lawful r =
    either_way Lawful (has_verb r (codes "put")) _ _ (made₃ HasRegisters OneOf₃ _ _ (register_number_number_lows r) (λ f low. low))
    (either_way Lawful (has_verb r (codes "del")) _ _ (made₂ HasRegisters (OneOf₂ ℕ) _ _ (register_number_lows r) (λ f low. low))
    (either_way Lawful (has_verb r (codes "clear")) _ _ (made₁ HasRegisters IsLow _ _ (register_lows r) (λ f low. low))
    (either_way Lawful (has_verb r (codes "build")) _ _ (made₂ HasRegisters (OneOf₂ (List Pair64)) _ _ (register_pairs_lows r) (λ f low. low))
    (either_way Lawful (has_verb r (codes "mput")) _ _ (made₂ HasRegisters (OneOf₂ (List Pair64)) _ _ (register_some_pairs_lows r) (λ f low. low))
    (either_way Lawful (has_verb r (codes "mdel")) _ _ (made₂ HasRegisters (OneOf₂ (List ℕ)) _ _ (register_numbers_lows r) (λ f low. low))
    (entry_lawful r))))))

-- what the records say names registers from 0 to 15
pub all_lawful : (place : ℕ) (rs : List Fields) → IfOk (commands_from (λ _. map_command) place rs) (AllByRecursion HasRegisters)
all_lawful = all_keep HasRegisters (λ _. map_command) (λ _. lawful)
