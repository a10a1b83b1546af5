-- What the program answers to its words and its input.
use Rattle.std.specs.Prelude.{◌≡◌, ◌⊎◌, ◌<◌, ◌≤◌, ◌+◌, [], ℕ, Bool, true, false, List, None, IfSome, IsSomeAnd, IsOkAnd, IsErrAnd, Ok, Result, MatchBool, length, if◌then◌else◌}
use Rattle.tool_input.specs.Commands.{commands_of}
use Rattle.script.specs.Lines.{IsPrefix, error_line_of}
use Rattle.script.specs.declared.fault.BadRecord.{BadRecord}
use Rattle.tool_input.specs.declared.parsed.Parsed.{Parsed}
use Rattle.tool_input.specs.declared.parsed.Parsed.TheVariants as parsed
use Rattle.tool_input.specs.declared.parsed.Tool.{Tool}
use Rattle.tool_input.specs.declared.parsed.Tool.TheVariants as tool
use Rattle.pam_top.specs.Output.{IsOutput}
use Rattle.pam_top.specs.Sample.{sample_commands}
use Rattle.pam_top.specs.Settings.{settings_of}
use Rattle.pam_top.specs.declared.settings.Settings.{Settings}
use Rattle.pam_top.specs.declared.status.Status.{Status}
use Rattle.pam_top.specs.declared.status.Status.TheVariants as status

-- the most bytes of an input
abbrev pub input_limit : ℕ
input_limit = 67108864

-- the most bytes that are asked for at a time
abbrev pub read_limit : ℕ
read_limit = 65536

-- whether a tool reads its input
abbrev pub reads_input : Tool → Bool
reads_input tool.Map = true
reads_input tool.Seq = true
reads_input tool.Interval = true
reads_input tool.Points = true
reads_input tool.Index = true
reads_input tool.Graph = true
reads_input tool.Serve = true
reads_input tool.Gserve = true
reads_input tool.Check = true
reads_input tool.Sample = false

-- a whole input of a tool that is not too large: nothing, for a tool that reads none
abbrev pub IsInput : Tool → List ℕ → Type 0
IsInput tool bytes = MatchBool (reads_input tool) (length bytes ≤ input_limit) (bytes ≡ [])

-- what was taken of an input that is too large: no more than one read goes past the limit
abbrev pub IsTooLarge : Tool → List ℕ → Type 0
IsTooLarge tool bytes = (reads_input tool ≡ true) × (input_limit < length bytes) × (length bytes ≤ input_limit + read_limit)

-- the commands that the settings and the input ask for
abbrev pub asked_by : Settings → List ℕ → Result Parsed BadRecord
asked_by settings bytes =
    if reads_input settings.tool then commands_of settings.tool bytes
    else Ok (parsed.Map (sample_commands settings.seed settings.size))

-- the answer of a tool to a whole input that is not too large
abbrev pub ToolAnswer : Settings → List ℕ → Status → List ℕ → Type 0
ToolAnswer settings bytes status.Ok text = IsOkAnd (asked_by settings bytes) (λ commands. IsOutput commands text)
ToolAnswer settings bytes status.BadRecord text = IsErrAnd (asked_by settings bytes) (λ bad. text ≡ error_line_of bad)
ToolAnswer settings bytes status.Usage text = ⊥
ToolAnswer settings bytes status.TooLarge text = ⊥
ToolAnswer settings bytes status.ReadFault text = ⊥
ToolAnswer settings bytes status.WriteFault text = ⊥
ToolAnswer settings bytes status.NoMemory text = ⊥

-- the answer to the words and the whole input
abbrev pub Answer : List (List ℕ) → List ℕ → Status → List ℕ → Type 0
Answer words bytes status.Ok text = IsSomeAnd (settings_of words) (λ settings. IsInput settings.tool bytes × ToolAnswer settings bytes status.Ok text)
Answer words bytes status.Usage text = (settings_of words ≡ None) × (text ≡ [])
Answer words bytes status.BadRecord text = IsSomeAnd (settings_of words) (λ settings. IsInput settings.tool bytes × ToolAnswer settings bytes status.BadRecord text)
Answer words bytes status.TooLarge text = IsSomeAnd (settings_of words) (λ settings. IsTooLarge settings.tool bytes) × (text ≡ [])
Answer words bytes status.ReadFault text = ⊥
Answer words bytes status.WriteFault text = ⊥
Answer words bytes status.NoMemory text = ⊥

-- the words ask for a tool that reads its input, and for one that reads none
abbrev pub AsksToRead : List (List ℕ) → Type 0
AsksToRead words = IsSomeAnd (settings_of words) (λ settings. reads_input settings.tool ≡ true)

abbrev pub AsksNotToRead : List (List ℕ) → Type 0
AsksNotToRead words = IsSomeAnd (settings_of words) (λ settings. reads_input settings.tool ≡ false)

-- the words do not ask for a tool that waits
abbrev pub AsksPlainly : List (List ℕ) → Type 0
AsksPlainly words = IfSome (settings_of words) (λ settings. (settings.tool ≡ tool.Serve → ⊥) × (settings.tool ≡ tool.Gserve → ⊥))

-- what was taken from the source and appended to the sink, at each status
abbrev pub Outcome : List (List ℕ) → List ℕ → Status → List ℕ → Type 0
Outcome words bytes status.Ok text = Answer words bytes status.Ok text
Outcome words bytes status.Usage text = Answer words bytes status.Usage text × (bytes ≡ [])
Outcome words bytes status.BadRecord text = Answer words bytes status.BadRecord text
Outcome words bytes status.TooLarge text = Answer words bytes status.TooLarge text
Outcome words bytes status.ReadFault text = AsksToRead words × (length bytes ≤ input_limit) × (text ≡ [])
Outcome words bytes status.WriteFault text = (made : List ℕ) × IsPrefix text made × (Answer words bytes status.Ok made ⊎ Answer words bytes status.BadRecord made)
Outcome words bytes status.NoMemory text = (length bytes ≤ input_limit) × (text ≡ [])

-- the statuses at which the whole input was read
abbrev pub was_read : Status → Bool
was_read status.Ok = true
was_read status.Usage = false
was_read status.BadRecord = true
was_read status.TooLarge = false
was_read status.ReadFault = false
was_read status.WriteFault = true
was_read status.NoMemory = false

-- the statuses at which nothing was written
abbrev pub was_silent : Status → Bool
was_silent status.Ok = false
was_silent status.Usage = true
was_silent status.BadRecord = false
was_silent status.TooLarge = true
was_silent status.ReadFault = true
was_silent status.WriteFault = false
was_silent status.NoMemory = true

-- the status at which a read failed, and the one at which a write did
abbrev pub failed_to_read : Status → Bool
failed_to_read status.Ok = false
failed_to_read status.Usage = false
failed_to_read status.BadRecord = false
failed_to_read status.TooLarge = false
failed_to_read status.ReadFault = true
failed_to_read status.WriteFault = false
failed_to_read status.NoMemory = false

abbrev pub failed_to_write : Status → Bool
failed_to_write status.Ok = false
failed_to_write status.Usage = false
failed_to_write status.BadRecord = false
failed_to_write status.TooLarge = false
failed_to_write status.ReadFault = false
failed_to_write status.WriteFault = true
failed_to_write status.NoMemory = false

-- the number of a status
abbrev pub status_code : Status → ℕ
status_code status.Ok = 0
status_code status.Usage = 2
status_code status.BadRecord = 3
status_code status.TooLarge = 4
status_code status.ReadFault = 5
status_code status.WriteFault = 6
status_code status.NoMemory = 7
