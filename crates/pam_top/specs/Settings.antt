-- Lawful words, and what they ask for.
use Rattle.std.specs.Prelude.{◌≤◌, ◌&&◌, ◌∷◌, ℕ, List, Option, Some, None, codes, nat_le, if◌then◌else◌}
use Rattle.std.specs.Str.{bytes_eq}
use Rattle.clap.specs.Words.{Row, Text, first_of}
use Rattle.script.specs.Numbers.{number_of}
use Rattle.pam_top.specs.CommandLine.{matches_on}
use Rattle.pam_top.specs.declared.settings.Settings.{Settings}
use Rattle.tool_input.specs.declared.parsed.Tool.{Tool}
use Rattle.tool_input.specs.declared.parsed.Tool.TheVariants as tool

infixl 10 ◌>>=◌
abbrev pub ◌>>=◌ : {A B : Type 0} → Option A → (A → Option B) → Option B
None >>= f = None
(Some x) >>= f = f x

-- the tool with this name
abbrev pub tool_named : Text → Option Tool
tool_named name =
    if bytes_eq name (codes "map") then Some tool.Map
    else if bytes_eq name (codes "seq") then Some tool.Seq
    else if bytes_eq name (codes "interval") then Some tool.Interval
    else if bytes_eq name (codes "points") then Some tool.Points
    else if bytes_eq name (codes "index") then Some tool.Index
    else if bytes_eq name (codes "graph") then Some tool.Graph
    else if bytes_eq name (codes "serve") then Some tool.Serve
    else if bytes_eq name (codes "gserve") then Some tool.Gserve
    else if bytes_eq name (codes "check") then Some tool.Check
    else if bytes_eq name (codes "sample") then Some tool.Sample
    else None

-- a number from `least` to `most`
abbrev pub between : ℕ → ℕ → ℕ → Option ℕ
between least most n = if nat_le least n && nat_le n most then Some n else None

-- the value of an option: the default where it is not given, and else the lawful number that its text spells
abbrev pub value_in : ℕ → ℕ → ℕ → Option Text → Option ℕ
value_in default least most None = Some default
value_in default least most (Some text) = number_of text >>= between least most

-- the settings that the matches give, where all that is given is lawful
abbrev pub settings_from : List Row → Option Settings
settings_from rows = do
  name ← first_of (codes "tool") rows
  tool ← tool_named name
  workers ← value_in 4 1 64 (first_of (codes "workers") rows)
  grain ← value_in 1024 1 4294967296 (first_of (codes "grain") rows)
  seed ← value_in 1 0 18446744073709551615 (first_of (codes "seed") rows)
  size ← value_in 100000 1 1000000 (first_of (codes "size") rows)
  Some (record { tool = tool; workers = workers; grain = grain; seed = seed; size = size })

-- the settings that the words after the program's name ask for, where they are lawful
unfoldable pub settings_of : List Text → Option Settings
settings_of words = matches_on (codes "pam" ∷ words) >>= settings_from

-- each setting is in its option's range
abbrev pub IsInRange : Settings → Type 0
IsInRange s = (1 ≤ s.workers) × (s.workers ≤ 64) × (1 ≤ s.grain) × (s.grain ≤ 4294967296) × (1 ≤ s.size) × (s.size ≤ 1000000)
