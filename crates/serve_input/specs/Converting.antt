-- The records of the commands of a tool that serves callers.
use Rattle.std.specs.Prelude.{◌+◌, ◌<◌, ◌^◌, ◌++◌, ℕ, List, [], ◌∷◌}
use Rattle.serve_script.specs.declared.commands.ServedCommand.{ServedCommand}
use Rattle.serve_script.specs.declared.commands.ServedCommand.TheVariants as command
use Rattle.serve_text.specs.declared.record.Act.TheVariants as act
use Rattle.serve_text.specs.declared.record.Record.{Record}

module _ {O Q : Type 0} where
  abbrev pub rounds_in : ServedCommand O Q → ℕ
  rounds_in (command.Serve place n) = 0
  rounds_in (command.Batch place c ops) = 0
  rounds_in (command.Read place c query) = 0
  rounds_in (command.Round place) = 1

  -- how many callers the commands of an input have
  abbrev pub callers_of : List (ServedCommand O Q) → ℕ
  callers_of [] = 1
  callers_of (command.Serve place n ∷ commands) = n
  callers_of (command.Batch place c ops ∷ commands) = 1
  callers_of (command.Read place c query ∷ commands) = 1
  callers_of (command.Round place ∷ commands) = 1

  -- a command's caller has 32 bits
  abbrev pub HasSmallCaller : ServedCommand O Q → Type 0
  HasSmallCaller (command.Serve place n) = Unit {0}
  HasSmallCaller (command.Batch place c ops) = c < 2 ^ 32
  HasSmallCaller (command.Read place c query) = c < 2 ^ 32
  HasSmallCaller (command.Round place) = Unit {0}

  -- the record of a batch or a read in a round
  abbrev pub records_by : ℕ → ServedCommand O Q → List (Record O Q)
  records_by round (command.Serve place n) = []
  records_by round (command.Batch place c ops) = record { place = place; caller = c; round = round; act = act.Submit ops } ∷ []
  records_by round (command.Read place c query) = record { place = place; caller = c; round = round; act = act.Read query } ∷ []
  records_by round (command.Round place) = []

  -- the records of commands from a round on
  unfoldable pub records_from : ℕ → List (ServedCommand O Q) → List (Record O Q)
  records_from round [] = []
  records_from round (c ∷ cs) = records_by round c ++ records_from (round + rounds_in c) cs

  abbrev pub records_of : List (ServedCommand O Q) → List (Record O Q)
  records_of commands = records_from 0 commands
