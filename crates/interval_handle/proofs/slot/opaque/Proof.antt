-- `opaque` forgets what a handle's pointer leads to.
use Rattle.loose.proofs.Slots.{opaque_meets}
use Rattle.interval_handle.proofs.Kind.{kind}
use Rattle.interval_handle.specs.contracts.inner.Inner as inner
use Rattle.interval_handle.specs.contracts.slot.opaque.Key.{name as #self}
use Rattle.interval_handle.proofs.slot.opaque.Statement.{statement}
use Rattle.interval_handle.proofs.slot.opaque.Code as code

pub opaque_spec : {M : Type 1} → statement M
opaque_spec 𝓤 𝓛 𝓜 𝓡 wired = opaque_meets inner.the_row kind #self 𝓤 𝓛 𝓜 𝓡 (code.unfolded 𝓤 𝓛.H 𝓜 𝓡 wired)
