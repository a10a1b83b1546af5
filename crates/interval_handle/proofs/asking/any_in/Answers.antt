use Rattle.std.proofs.Common.{inr, refl}
use Rattle.interval_map.specs.Intervals.{stab}
use Rattle.interval_handle.proofs.Asked.{none_has}
use Rattle.interval_handle.proofs.asking.any_in.Goals as goal

pub returns : goal.returns
returns c = inr (refl, none_has _ (stab c.args.set.now c.args.point) c.any.ensures c.if-any.false)
