-- Texts that begin with what stood there before.
use Rattle.std.proofs.Common.{◌∙◌, ◌++◌, ℕ, List, append_assoc}
use Rattle.serve_text.specs.Texts.{Extends}

-- what goes on from a longer text goes on from its start
pub extends_earlier : (start more text : List ℕ) → Extends (start ++ more) text → Extends start text
extends_earlier start more text h = (more ++ h.0, h.1 ∙ append_assoc start more h.0)
