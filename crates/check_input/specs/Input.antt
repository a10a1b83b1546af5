-- What an input of the tool check says.
use Rattle.std.specs.Prelude.{◌+◌, ℕ, List, Option, Some, None, Result, Ok, Err, drop, length, take}
use Rattle.script.specs.Results.{◌>>=◌}
use Rattle.script.specs.declared.fault.BadRecord.{BadRecord}
use Rattle.script.specs.declared.fault.Code.TheVariants as code
use Rattle.serve_script.specs.Serve.{numbers_in, operation_of, query_of}
use Rattle.serve_script.specs.Served.{served_commands_of}
use Rattle.serve_script.specs.declared.commands.ServedCommand.{ServedCommand}
use Rattle.op_runs.specs.declared.op.Op.{Op}
use Rattle.serve_script.specs.declared.map_words.ServeQuery.{ServeQuery}
use Rattle.check_input.specs.RunLine.{run_line}
use Rattle.check_input.specs.declared.input.CheckInput.{CheckInput}

-- the commands of an input of the tool serve
abbrev pub serve_commands_of : List ℕ → Result (List (ServedCommand Op ServeQuery)) BadRecord
serve_commands_of bytes = served_commands_of operation_of numbers_in query_of bytes

-- where there is a line `run`: the commands before it, and the text behind it; else the first bad record, or the missing line
abbrev pub input_with : List ℕ → Option ℕ → Result CheckInput BadRecord
input_with bytes (Some at) = serve_commands_of (take at bytes) >>= λ commands. Ok (record { list = commands; text = drop (at + 4) bytes })
input_with bytes None = serve_commands_of bytes >>= λ commands. Err (record { place = length commands + 1; code = code.Run })

unfoldable pub check_input_of : List ℕ → Result CheckInput BadRecord
check_input_of bytes = input_with bytes (run_line bytes)
