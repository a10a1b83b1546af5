-- What the definition of lawful words gives on words that are written out.
use Rattle.std.proofs.Common.{◌≡◌, [], ◌∷◌, ℕ, List, Option, Some, None, codes, map, replicate, refl}
use Rattle.clap.proofs.OnLiterals.{clap_on_literals}
use Rattle.clap.specs.Words.{Text}
use Rattle.pam_top.specs.CommandLine.{matches_on, pam_command}
use Rattle.pam_top.specs.Settings.{settings_of}
use Rattle.pam_top.specs.declared.settings.Settings.{Settings}
use Rattle.tool_input.specs.declared.parsed.Tool.{Tool}
use Rattle.tool_input.specs.declared.parsed.Tool.TheVariants as tool

abbrev unlawful_words : List (List Text)
unlawful_words =
    -- no words
    [] ∷
    -- another spelling of a tool
    (codes "Interval" ∷ []) ∷
    -- an unknown tool
    (codes "frob" ∷ []) ∷
    -- help
    (codes "--help" ∷ []) ∷
    -- help by a letter
    (codes "-h" ∷ []) ∷
    -- a subcommand for help
    (codes "help" ∷ []) ∷
    -- the version
    (codes "--version" ∷ []) ∷
    -- the version by a letter
    (codes "-V" ∷ []) ∷
    -- an empty word
    ([] ∷ []) ∷
    -- two tools
    (codes "map" ∷ codes "map" ∷ []) ∷
    -- a value below its range
    (codes "--workers" ∷ codes "0" ∷ codes "map" ∷ []) ∷
    -- values above their ranges
    (codes "--workers" ∷ codes "65" ∷ codes "map" ∷ []) ∷
    (codes "--grain" ∷ codes "4294967297" ∷ codes "map" ∷ []) ∷
    (codes "--seed" ∷ codes "18446744073709551616" ∷ codes "map" ∷ []) ∷
    (codes "--size" ∷ codes "1000001" ∷ codes "map" ∷ []) ∷
    -- a leading zero
    (codes "--workers" ∷ codes "08" ∷ codes "map" ∷ []) ∷
    -- an abbreviated option
    (codes "--work" ∷ codes "8" ∷ codes "map" ∷ []) ∷
    -- an option by a letter
    (codes "-w" ∷ codes "8" ∷ codes "map" ∷ []) ∷
    -- another spelling
    (codes "--Workers" ∷ codes "8" ∷ codes "map" ∷ []) ∷
    -- an option without a value
    (codes "map" ∷ codes "--workers" ∷ []) ∷
    -- an empty value
    (codes "--workers=" ∷ codes "map" ∷ []) ∷
    -- an option twice
    (codes "--seed=2" ∷ codes "--seed=2" ∷ codes "map" ∷ []) ∷
    -- an option behind two hyphens
    (codes "--" ∷ codes "--workers" ∷ codes "8" ∷ codes "map" ∷ []) ∷
    []

unlawful : map settings_of unlawful_words ≡ replicate 23 None
unfolding matches_on pam_command clap_on_literals settings_of
unlawful = refl

abbrev lawful_words : List (List Text)
lawful_words =
    -- a tool, with each default
    (codes "map" ∷ []) ∷
    -- a value in the same word
    (codes "--workers=8" ∷ codes "map" ∷ []) ∷
    -- a value in the next word
    (codes "--workers" ∷ codes "8" ∷ codes "map" ∷ []) ∷
    -- options behind the tool
    (codes "map" ∷ codes "--workers" ∷ codes "8" ∷ []) ∷
    -- two hyphens before the tool
    (codes "--" ∷ codes "map" ∷ []) ∷
    -- two hyphens after it
    (codes "map" ∷ codes "--" ∷ []) ∷
    -- each least value
    (codes "--workers" ∷ codes "1" ∷ codes "--grain" ∷ codes "1" ∷ codes "--seed" ∷ codes "0" ∷ codes "--size" ∷ codes "1" ∷ codes "map" ∷ []) ∷
    -- each greatest value
    (codes "--workers" ∷ codes "64" ∷ codes "--grain" ∷ codes "4294967296" ∷ codes "--seed" ∷ codes "18446744073709551615" ∷ codes "--size" ∷ codes "1000000" ∷ codes "map" ∷ []) ∷
    -- the other tools
    (codes "seq" ∷ []) ∷
    (codes "interval" ∷ []) ∷
    (codes "points" ∷ []) ∷
    (codes "index" ∷ []) ∷
    (codes "graph" ∷ []) ∷
    (codes "serve" ∷ []) ∷
    (codes "gserve" ∷ []) ∷
    (codes "check" ∷ []) ∷
    (codes "--seed" ∷ codes "0" ∷ codes "--size" ∷ codes "1" ∷ codes "sample" ∷ []) ∷
    []

abbrev tool_with : Tool → ℕ → ℕ → ℕ → ℕ → Option Settings
tool_with t workers grain seed size = Some (record { tool = t; workers = workers; grain = grain; seed = seed; size = size })

lawful : map settings_of lawful_words ≡
    tool_with tool.Map 4 1024 1 100000 ∷
    tool_with tool.Map 8 1024 1 100000 ∷
    tool_with tool.Map 8 1024 1 100000 ∷
    tool_with tool.Map 8 1024 1 100000 ∷
    tool_with tool.Map 4 1024 1 100000 ∷
    tool_with tool.Map 4 1024 1 100000 ∷
    tool_with tool.Map 1 1 0 1 ∷
    tool_with tool.Map 64 4294967296 18446744073709551615 1000000 ∷
    tool_with tool.Seq 4 1024 1 100000 ∷
    tool_with tool.Interval 4 1024 1 100000 ∷
    tool_with tool.Points 4 1024 1 100000 ∷
    tool_with tool.Index 4 1024 1 100000 ∷
    tool_with tool.Graph 4 1024 1 100000 ∷
    tool_with tool.Serve 4 1024 1 100000 ∷
    tool_with tool.Gserve 4 1024 1 100000 ∷
    tool_with tool.Check 4 1024 1 100000 ∷
    tool_with tool.Sample 4 1024 0 1 ∷
    []
unfolding matches_on pam_command clap_on_literals settings_of
lawful = refl
