use Rattle.std.proofs.Common.{arith}
use Rattle.csv.specs.Records.{fields_of}
use Rattle.script.proofs.RegisterFacts.{three_registers_lows}
use Rattle.map_records.proofs.shapes.three_registers.Goals as goal

pub overflow_cast-result-2 : goal.overflow_cast-result-2
overflow_cast-result-2 c =
    let low = rw (← c.in_ok-first.ensures) at (three_registers_lows (fields_of c.args.row.now)) in
    omega (arith, low.1)
