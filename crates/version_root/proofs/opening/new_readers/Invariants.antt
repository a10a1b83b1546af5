use Rattle.std.specs.Arc.{arc_value}
use Rattle.version_root.specs.Seats.{IsFirstWriter}
use Rattle.version_root.specs.Answers.{AreFresh}
use Rattle.version_root.proofs.opening.new_readers.Given as goal

abbrev pub invariant-loop-made : goal.invariant-loop-made
invariant-loop-made g l =
    IsFirstWriter (arc_value l.root).shared.table_id (arc_value l.root).shared.key.base.value l.made l.seat
    × AreFresh (arc_value l.root).shared.table_id (arc_value l.root).shared.key.base.value l.made l.all.items
