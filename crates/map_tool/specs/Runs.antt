-- Commands in a row, and many puts into one register or look-ups in one.
use Rattle.std.specs.Prelude.{[], ◌∷◌, ℕ, List, Option, codes, fold, map}
use Rattle.std.specs.List.{flat_map}
use Rattle.script.specs.Lines.{line_of}
use Rattle.map_records.specs.declared.commands.MapCommand.{MapCommand}
use Rattle.map_records.specs.declared.commands.MapCommand.TheVariants as command
use Rattle.map_tool.specs.Effects.{found_line, map_after}
use Rattle.map_tool.specs.Registers.{Registers}

-- the registers after commands in order
abbrev pub after_all : Registers → List MapCommand → Registers
after_all rs commands = fold map_after rs commands

-- a put into a register for each entry
abbrev pub puts_into : ℕ → List (ℕ × ℕ) → List MapCommand
puts_into d entries = map (λ e. command.Put d e.0 e.1) entries

-- the replies of puts, by the sizes after them
abbrev pub ok_lines : List ℕ → List ℕ
ok_lines sizes = flat_map (λ n. line_of (codes "ok") (n ∷ [])) sizes

-- a look-up in a register for each key
abbrev pub gets_from : ℕ → List ℕ → List MapCommand
gets_from m keys = map (λ k. command.Get m k) keys

-- the replies of look-ups, by what they find
abbrev pub found_lines : List (Option ℕ) → List ℕ
found_lines vals = flat_map found_line vals
