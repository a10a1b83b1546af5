-- Turns, one after another.
use Rattle.std.proofs.Common.{◌++◌, sym, ◌∙◌, subst}
use Rattle.version_root.specs.Public.{IsPrefix}
use Rattle.versions.proofs.Prefixes.{prefix_front}
use Rattle.batch_store.specs.Keeping.{Keeping, SameStore, Publishes}

pub same_stores : {S O : Type 0} (a b c : Keeping S O) → SameStore a b → SameStore b c → SameStore a c
same_stores a b c p q = record { root = q.root ∙ p.root; base = q.base ∙ p.base; lanes = q.lanes ∙ p.lanes }

-- a turn leaves the journal as the beginning of the longer one
pub published_front : {S O : Type 0} → (before after : Keeping S O) → Publishes before after → IsPrefix before.journal after.journal
published_front before after p = subst (λ l. IsPrefix before.journal l) (sym p.journal) (prefix_front before.journal (before.pending ++ p.taken))
