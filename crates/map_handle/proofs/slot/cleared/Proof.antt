-- `cleared` reads a handle's pointer as one to what it keeps.
use Rattle.loose.proofs.Slots.{cleared_meets}
use Rattle.map_handle.proofs.Kind.{kind}
use Rattle.map_handle.specs.contracts.inner.Inner as inner
use Rattle.map_handle.specs.contracts.slot.cleared.Key.{name as #self}
use Rattle.map_handle.proofs.slot.cleared.Statement.{statement}
use Rattle.map_handle.proofs.slot.cleared.Code as code

pub cleared_spec : {M : Type 1} → statement M
cleared_spec 𝓤 𝓛 𝓜 𝓡 wired = cleared_meets inner.the_row kind #self 𝓤 𝓛 𝓜 𝓡 (code.unfolded 𝓤 𝓛.H 𝓜 𝓡 wired)
