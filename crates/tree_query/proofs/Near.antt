-- What is found, or else what is near.
use Rattle.std.proofs.Common.{◌≡◌, Option, Some, None, refl}
use Rattle.std.specs.Option.{option_or}

-- where there is something near, nothing that is nearer to the start is asked for
pub or_given : {E : Type 0} (found : Option E) (e : E) (before : Option E) → option_or (option_or found (Some e)) before ≡ option_or found (Some e)
or_given None e before = refl
or_given (Some x) e before = refl
