-- What a put takes to hand out the value that it replaces.
use Rattle.std.specs.Prelude.{ℕ, ◌+◌, Bool, true, false}

-- the steps of a look-up in a map so high, where the value is wanted
abbrev pub look_cost : Bool → ℕ → ℕ → ℕ
look_cost true height find = height + find
look_cost false height find = 0
