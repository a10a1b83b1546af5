-- Why bytes are no term.
use Rattle.std.specs.Prelude.{◌≡◌, ℕ, List, true, false}
use Rattle.inverted_index.specs.Terms.{is_term}
use Rattle.inverted_index.specs.declared.term.TermFault.{TermFault}
use Rattle.inverted_index.specs.declared.term.TermFault.TheVariants as fault

-- what a fault says of the bytes
abbrev pub FaultOf : List ℕ → TermFault → Type 0
FaultOf bytes fault.NotTerm = is_term bytes ≡ false
FaultOf bytes fault.NoMemory = is_term bytes ≡ true
