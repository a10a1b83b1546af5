-- What words and input ask for.
use Rattle.std.specs.Prelude.{◌≡◌, [], ℕ, Bool, true, false, List, IsSomeAnd, Ok, Err}
use Rattle.pam_top.specs.Answer.{IsInput, Outcome, asked_by, failed_to_read, was_read, was_silent}
use Rattle.pam_top.specs.Settings.{settings_of}
use Rattle.pam_top.specs.declared.asking.Asked.{Asked}
use Rattle.pam_top.specs.declared.asking.Asked.TheVariants as asked
use Rattle.tool_input.specs.Lawful.{IsLawful}

-- the words and the input, which was read whole, ask for lawful commands, or the input has a first bad record; or the run has ended
abbrev pub IsAsked : List (List ℕ) → List ℕ → Asked → Type 0
IsAsked words bytes (asked.Commands cut list) = IsSomeAnd (settings_of words) (λ settings. IsInput settings.tool bytes × (asked_by settings bytes ≡ Ok list)) × IsLawful list
IsAsked words bytes (asked.Bad bad) = IsSomeAnd (settings_of words) (λ settings. IsInput settings.tool bytes × (asked_by settings bytes ≡ Err bad))
IsAsked words bytes (asked.Ended status) = Outcome words bytes status [] × (was_silent status ≡ true) × (was_read status ≡ false)

-- whether the input was read whole
abbrev pub has_input : Asked → Bool
has_input (asked.Commands cut list) = true
has_input (asked.Bad bad) = true
has_input (asked.Ended status) = false

-- whether the run has ended since a read failed
abbrev pub has_failed : Asked → Bool
has_failed (asked.Commands cut list) = false
has_failed (asked.Bad bad) = false
has_failed (asked.Ended status) = failed_to_read status
