use Rattle.std.proofs.Common.{refl}
use Rattle.graph_tool.proofs.command.graph_command.Goals as goal

pub slice_bounds-line-end-in-Add : goal.slice_bounds-line-end-in-Add
slice_bounds-line-end-in-Add g c = refl

pub slice_bounds-line-end-in-Cut-2 : goal.slice_bounds-line-end-in-Cut-2
slice_bounds-line-end-in-Cut-2 g c = refl
