use Rattle.std.proofs.Common.{◌≤◌, ◌∷◌, ◌++◌, [], decimal, length, length-append, arith}
use Rattle.std.proofs.lemmas.Fmt.{length-decimal-le}
use Rattle.script.specs.Lines.{line_feed}
use Rattle.map_tool.proofs.replacing.push_ok.Goals as goal

-- a number has at most twenty digits
pub unreachable-requires : goal.unreachable-requires
unreachable-requires c =
    let digits : length (decimal c.args.number) ≤ 20 = length-decimal-le 20 c.args.number (omega arith) (omega (arith, c.ranges.number.fits)) c.ranges.number.fits in
    let full = c.in_default.ensures.full in
    omega (arith, digits, length-append (decimal c.args.number ++ []) (line_feed ∷ []), length-append (decimal c.args.number) [], full, c.requires.room)
