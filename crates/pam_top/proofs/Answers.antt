-- The end of a run that has a text, as the outcome of the words and the input.
use Rattle.std.proofs.Common.{◌≡◌, ◌≤◌, [], ℕ, Bool, true, false, List, Some, arith, inl, inr, length}
use Rattle.std.specs.Prelude.{Option, None, IsSomeAnd, IfOk, MatchBool, Result, Ok, Err}
use Rattle.pam_top.specs.Answer.{Answer, IsInput, Outcome, asked_by, input_limit, reads_input}
use Rattle.pam_top.specs.Output.{IsOutput}
use Rattle.pam_top.specs.Settings.{settings_of}
use Rattle.pam_top.specs.Telling.{HasText, Tells}
use Rattle.pam_top.specs.declared.settings.Settings.{Settings}
use Rattle.pam_top.specs.declared.status.Status.{Status}
use Rattle.pam_top.specs.declared.status.Status.TheVariants as status
use Rattle.script.specs.Lines.{error_line_of}
use Rattle.script.specs.declared.fault.BadRecord.{BadRecord}
use Rattle.tool_input.specs.declared.parsed.Parsed.{Parsed}

weaker : (o : Option Settings) (P Q : Settings → Type 0) → ((s : Settings) → P s → Q s) → IsSomeAnd o P → IsSomeAnd o Q
weaker None P Q more is = is
weaker (Some s) P Q more is = more s is

-- the input of a tool is within the limit
small : (bytes : List ℕ) (reads : Bool) → MatchBool reads (length bytes ≤ input_limit) (bytes ≡ []) → length bytes ≤ input_limit
small bytes true is = is
small bytes false none = rw none (omega arith)

within : (bytes : List ℕ) (o : Option Settings) (P : Settings → Type 0) → IsSomeAnd o (λ settings. IsInput settings.tool bytes × P settings) → length bytes ≤ input_limit
within bytes None P is = absurd is
within bytes (Some s) P is = small bytes (reads_input s.tool) is.0

module _ {V E : Type 0} (items : V → List ℕ) (words : List (List ℕ)) (bytes : List ℕ) where
  -- the text for a status is its answer
  ended : (told : Status) (text : Result V E) (end : Status) (front : List ℕ) → HasText told → length bytes ≤ input_limit → IfOk text (λ t. Answer words bytes told (items t))
      → Tells items told text end front → Outcome words bytes end front
  ended status.Ok (Ok text) end front has few answered (inl (is, whole)) = rw (is, whole) answered
  ended status.Ok (Ok text) end front has few answered (inr (is, prefix)) = rw is (items text, prefix, inl answered)
  ended status.BadRecord (Ok text) end front has few answered (inl (is, whole)) = rw (is, whole) answered
  ended status.BadRecord (Ok text) end front has few answered (inr (is, prefix)) = rw is (items text, prefix, inr answered)
  ended status.Usage (Ok text) end front has few answered tells = absurd has
  ended status.TooLarge (Ok text) end front has few answered tells = absurd has
  ended status.ReadFault (Ok text) end front has few answered tells = absurd has
  ended status.WriteFault (Ok text) end front has few answered tells = absurd has
  ended status.NoMemory (Ok text) end front has few answered tells = absurd has
  ended told (Err e) end front has few answered (is, none) = rw is (few, none)

  -- the text is that of the commands
  pub ended_with_replies : (list : Parsed) (text : Result V E) (end : Status) (front : List ℕ)
      → IsSomeAnd (settings_of words) (λ settings. IsInput settings.tool bytes × (asked_by settings bytes ≡ Ok list))
      → IfOk text (λ t. IsOutput list (items t)) → Tells items status.Ok text end front → Outcome words bytes end front
  ended_with_replies list (Ok text) end front asks output tells =
      ended status.Ok (Ok text) end front tt (within bytes (settings_of words) _ asks) (weaker (settings_of words) _ _ (λ settings asked. (asked.0, rw asked.1 output)) asks) tells
  ended_with_replies list (Err e) end front asks output tells = ended status.Ok (Err e) end front tt (within bytes (settings_of words) _ asks) tt tells

  -- the text is the line of the first bad record
  pub ended_with_error : (bad : BadRecord) (text : Result V E) (end : Status) (front : List ℕ)
      → IsSomeAnd (settings_of words) (λ settings. IsInput settings.tool bytes × (asked_by settings bytes ≡ Err bad))
      → IfOk text (λ t. items t ≡ error_line_of bad) → Tells items status.BadRecord text end front → Outcome words bytes end front
  ended_with_error bad (Ok text) end front asks line tells =
      ended status.BadRecord (Ok text) end front tt (within bytes (settings_of words) _ asks) (weaker (settings_of words) _ _ (λ settings asked. (asked.0, rw asked.1 line)) asks) tells
  ended_with_error bad (Err e) end front asks line tells = ended status.BadRecord (Err e) end front tt (within bytes (settings_of words) _ asks) tt tells
