use Rattle.std.proofs.Common.{arith}
use Rattle.check_input.proofs.Places.{has_room}
use Rattle.check_input.proofs.input.parted.Goals as goal

pub split_at-requires : goal.split_at-requires
split_at-requires c = omega (arith, has_room c.args.bytes.now c.args.at c.requires)

pub split_at-requires-2 : goal.split_at-requires-2
split_at-requires-2 c = has_room c.args.bytes.now c.args.at c.requires
