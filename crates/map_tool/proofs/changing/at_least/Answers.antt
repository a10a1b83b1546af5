use Rattle.std.proofs.Common.{◌∙◌, arith}
use Rattle.std.proofs.lemmas.Result.{IfOk-weaker}
use Rattle.map_tool.proofs.Greatest.{values_from_is}
use Rattle.map_tool.proofs.changing.at_least.Goals as goal

pub returns : goal.returns
returns c =
    IfOk-weaker c.aug_filter.result _ _ (λ map is.
    is ∙ values_from_is c.args.least c.args.map.now.entries (omega (arith, c.ranges.least.fits))) c.aug_filter.ensures
