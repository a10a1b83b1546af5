use Rattle.std.proofs.Common.{◌∙◌, ◌&&◌, nat_le, arith}
use Rattle.std.proofs.lemmas.Result.{IfOk-weaker}
use Rattle.map_tool.proofs.Counting.{count_is}
use Rattle.map_tool.proofs.asking.count_within.Goals as goal

pub returns : goal.returns
returns g c =
    IfOk-weaker c.map_reduce.result _ _ (λ n is.
    is ∙ count_is (λ v. nat_le c.args.lo v && nat_le v c.args.hi) c.args.map.now.entries (omega (arith, c.size-few.ensures.value, c.size-few.ensures.fits))) c.map_reduce.ensures
