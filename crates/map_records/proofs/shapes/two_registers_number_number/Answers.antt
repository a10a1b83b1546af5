use Rattle.std.proofs.Common.{arith}
use Rattle.csv.specs.Records.{fields_of}
use Rattle.script.proofs.RegisterFacts.{two_registers_number_number_lows}
use Rattle.map_records.proofs.shapes.two_registers_number_number.Goals as goal

pub overflow_cast-result : goal.overflow_cast-result
overflow_cast-result c =
    let low = rw (← c.in_ok-first.ensures) at (two_registers_number_number_lows (fields_of c.args.row.now)) in
    omega (arith, low.0)

pub overflow_cast-result-2 : goal.overflow_cast-result-2
overflow_cast-result-2 c =
    let low = rw (← c.in_ok-first.ensures) at (two_registers_number_number_lows (fields_of c.args.row.now)) in
    omega (arith, low.1)
