-- The most steps of the commands of the tool map that promise one.
use Rattle.std.specs.Prelude.{ℕ, ◌+◌, ◌*◌, List, [], Option, Some, None, Result, Err, Ok, slice_index_or}
use Rattle.map_model.specs.Contents.{Contents}
use Rattle.map_records.specs.declared.commands.MapCommand.{MapCommand}
use Rattle.map_records.specs.declared.commands.MapCommand.TheVariants as command
use Rattle.map_tool.specs.declared.effect.Effect.{Effect as Made}
use Rattle.map_tool.specs.declared.effect.Effect.TheVariants as made

-- the height of the map of a register
abbrev pub height_of : List (Contents ℕ ℕ) → ℕ → ℕ
height_of kept i = (slice_index_or kept i (record { entries = []; height = 0 })).height

-- the steps of a change of one entry in a map of a height, of a look-up in it, and of a fold over a range of it
abbrev pub change_steps : ℕ → ℕ
change_steps height = 64 * (height + 1) * (64 + 2) + 9

abbrev pub get_steps : ℕ → ℕ
get_steps height = height + 9

abbrev pub fold_steps : ℕ → ℕ
fold_steps height = 8 * height + 16 * 64

-- the most steps of a command
abbrev pub most_steps : List (Contents ℕ ℕ) → MapCommand → Option ℕ
most_steps kept (command.Put d k v) = Some (change_steps (height_of kept d))
most_steps kept (command.Del d k) = Some (change_steps (height_of kept d))
most_steps kept (command.Get m k) = Some (get_steps (height_of kept m))
most_steps kept (command.Sum m lo hi) = Some (fold_steps (height_of kept m))
most_steps kept (command.Fold m) = Some 0
most_steps kept c = None

-- the most steps to do an effect, and those that are left where it is made
abbrev pub steps_for : List (Contents ℕ ℕ) → Made → ℕ
steps_for kept (made.Puts d k v) = change_steps (height_of kept d)
steps_for kept (made.Dels d k) = change_steps (height_of kept d)
steps_for kept effect = 0

abbrev pub steps_left : {E : Type 0} → List (Contents ℕ ℕ) → Result Made E → ℕ
steps_left kept (Ok effect) = steps_for kept effect
steps_left kept (Err e) = 0
