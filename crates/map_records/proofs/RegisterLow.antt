-- A register that is read is 0 to 15.
use Rattle.std.proofs.Common.{ℕ, Result, Err, IfOk, Ok}
use Rattle.script.proofs.RegisterFacts.{IsLow, then_low}
use Rattle.script.specs.Fields.{register_in}
use Rattle.script.specs.Records.{Fields}
use Rattle.script.specs.Results.{◌>>=◌}
use Rattle.script.specs.declared.fault.Code.{Code}

of_then : (o : Result ℕ Code) → IfOk (o >>= Ok) IsLow → IfOk o IsLow
of_then (Ok n) low = low
of_then (Err e) low = low

pub register_low : (r : Fields) (i : ℕ) → IfOk (register_in r i) IsLow
register_low r i = of_then (register_in r i) (then_low IsLow r i Ok (λ n low. low))
