use Rattle.std.proofs.Common.{◌∙◌, [], ◌∷◌, ap, arith, length}
use Rattle.std.proofs.lemmas.List.{length-append}
use Rattle.map_tool.specs.Registers.{maps_of}
use Rattle.map_tool.proofs.Kept.{emptied}
use Rattle.map_tool.proofs.registers.Registers.empty.Goals as goal

pub loop-preserved : goal.loop-preserved
loop-preserved c = (
  omega (arith, ap length c.in_ok-push.ensures.items, length-append c.loop.maps.items (c.empty.result ∷ []), c.loop.invariant.0),
  ap maps_of c.in_ok-push.ensures.items ∙ emptied c.loop.maps.items c.empty.result c.loop.counter c.loop.invariant.1 c.empty.ensures.entries,
)
