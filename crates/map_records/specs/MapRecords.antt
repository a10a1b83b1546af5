-- The records of the tool map.
use Rattle.std.specs.Prelude.{◌<◌, Result, Err, codes, if◌then◌else◌}
use Rattle.script.specs.Records.{Fields}
use Rattle.script.specs.Rows.{has_verb, makes₁, makes₂, makes₃, makes₄}
use Rattle.script.specs.Shapes as shape
use Rattle.map_records.specs.How.{three_registers_how}
use Rattle.script.specs.declared.fault.Code.{Code}
use Rattle.script.specs.declared.fault.Code.TheVariants as code
use Rattle.map_records.specs.declared.commands.MapCommand.{MapCommand}
use Rattle.map_records.specs.declared.commands.MapCommand.TheVariants as command

-- the verbs that make a register a part of another one
unfoldable pub part_command : Fields → Result MapCommand Code
part_command r =
    if has_verb r (codes "below") then makes₃ command.Below (shape.two_registers_number r)
    else if has_verb r (codes "above") then makes₃ command.Above (shape.two_registers_number r)
    else if has_verb r (codes "slice") then makes₄ command.Slice (shape.two_registers_number_number r)
    else if has_verb r (codes "atleast") then makes₃ command.Atleast (shape.two_registers_number r)
    else if has_verb r (codes "filter") then makes₄ command.Filter (shape.two_registers_number_number r)
    else Err code.Verb

-- those that make it a copy, or of two registers
unfoldable pub joint_command : Fields → Result MapCommand Code
joint_command r =
    if has_verb r (codes "copy") then makes₂ command.Copy (shape.two_registers r)
    else if has_verb r (codes "union") then makes₄ command.Union (three_registers_how r)
    else if has_verb r (codes "inter") then makes₄ command.Inter (three_registers_how r)
    else if has_verb r (codes "diff") then makes₃ command.Diff (shape.three_registers r)
    else if has_verb r (codes "cat") then makes₃ command.Cat (shape.three_registers r)
    else part_command r

-- those that ask of a range of keys or values
unfoldable pub range_command : Fields → Result MapCommand Code
range_command r =
    if has_verb r (codes "sum") then makes₃ command.Sum (shape.register_number_number r)
    else if has_verb r (codes "max") then makes₃ command.Max (shape.register_number_number r)
    else if has_verb r (codes "list") then makes₃ command.List (shape.register_number_number r)
    else if has_verb r (codes "count") then makes₃ command.Count (shape.register_number_number r)
    else joint_command r

-- those that ask of one entry or of the whole map
unfoldable pub entry_command : Fields → Result MapCommand Code
entry_command r =
    if has_verb r (codes "get") then makes₂ command.Get (shape.register_number r)
    else if has_verb r (codes "size") then makes₁ command.Size (shape.register r)
    else if has_verb r (codes "fold") then makes₁ command.Fold (shape.register r)
    else if has_verb r (codes "rank") then makes₂ command.Rank (shape.register_number r)
    else if has_verb r (codes "select") then makes₂ command.Select (shape.register_number r)
    else if has_verb r (codes "next") then makes₂ command.Next (shape.register_number r)
    else if has_verb r (codes "prev") then makes₂ command.Prev (shape.register_number r)
    else range_command r

-- what a record says: a row for each verb, with its fields, first those that change one register
unfoldable pub map_command : Fields → Result MapCommand Code
map_command r =
    if has_verb r (codes "put") then makes₃ command.Put (shape.register_number_number r)
    else if has_verb r (codes "del") then makes₂ command.Del (shape.register_number r)
    else if has_verb r (codes "clear") then makes₁ command.Clear (shape.register r)
    else if has_verb r (codes "build") then makes₂ command.Build (shape.register_pairs r)
    else if has_verb r (codes "mput") then makes₂ command.Mput (shape.register_some_pairs r)
    else if has_verb r (codes "mdel") then makes₂ command.Mdel (shape.register_numbers r)
    else entry_command r

-- the registers of a command are 0 to 15
abbrev pub HasRegisters : MapCommand → Type 0
HasRegisters (command.Put d k v) = d < 16
HasRegisters (command.Del d k) = d < 16
HasRegisters (command.Get m k) = m < 16
HasRegisters (command.Size m) = m < 16
HasRegisters (command.Sum m lo hi) = m < 16
HasRegisters (command.Fold m) = m < 16
HasRegisters (command.Max m lo hi) = m < 16
HasRegisters (command.Rank m k) = m < 16
HasRegisters (command.Select m i) = m < 16
HasRegisters (command.Next m k) = m < 16
HasRegisters (command.Prev m k) = m < 16
HasRegisters (command.List m lo hi) = m < 16
HasRegisters (command.Count m lo hi) = m < 16
HasRegisters (command.Copy d m) = (d < 16) × (m < 16)
HasRegisters (command.Clear d) = d < 16
HasRegisters (command.Build d pairs) = d < 16
HasRegisters (command.Mput d pairs) = d < 16
HasRegisters (command.Mdel d keys) = d < 16
HasRegisters (command.Union d a b how) = (d < 16) × (a < 16) × (b < 16)
HasRegisters (command.Inter d a b how) = (d < 16) × (a < 16) × (b < 16)
HasRegisters (command.Diff d a b) = (d < 16) × (a < 16) × (b < 16)
HasRegisters (command.Cat d a b) = (d < 16) × (a < 16) × (b < 16)
HasRegisters (command.Below d m k) = (d < 16) × (m < 16)
HasRegisters (command.Above d m k) = (d < 16) × (m < 16)
HasRegisters (command.Slice d m lo hi) = (d < 16) × (m < 16)
HasRegisters (command.Atleast d m t) = (d < 16) × (m < 16)
HasRegisters (command.Filter d m lo hi) = (d < 16) × (m < 16)
