-- `vacant` makes a handle that is closed.
use Rattle.loose.proofs.Slots.{vacant_meets}
use Rattle.text_handle.proofs.Kind.{kind}
use Rattle.text_handle.specs.contracts.inner.Inner as inner
use Rattle.text_handle.specs.contracts.slot.vacant.Key.{name as #self}
use Rattle.text_handle.proofs.slot.vacant.Statement.{statement}
use Rattle.text_handle.proofs.slot.vacant.Code as code

pub vacant_spec : {M : Type 1} → statement M
vacant_spec 𝓤 𝓛 𝓜 𝓡 wired = vacant_meets inner.the_row kind #self 𝓤 𝓛 𝓜 𝓡 (code.unfolded 𝓤 𝓛.H 𝓜 𝓡 wired)
