-- The parts of a line, one after another.
use Rattle.std.proofs.Common.{◌∙◌, ◌++◌, ℕ, List, append_assoc}
use Rattle.script.specs.Lines.{IsPrefix}

-- what goes on from a longer text goes on from its start
pub begins_earlier : (start more text : List ℕ) → IsPrefix (start ++ more) text → IsPrefix start text
begins_earlier start more text h = (more ++ h.0, h.1 ∙ append_assoc start more h.0)
