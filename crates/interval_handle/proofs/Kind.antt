-- The kind of this crate's handles.
use Rattle.std.proofs.Common.{refl}
use Rattle.loose.proofs.Slots.{Kind}
use Rattle.interval_handle.specs.contracts.inner.Inner as inner
use Rattle.interval_handle.specs.contracts.slot.Slot as slot

abbrev pub kind : Kind inner.the_row
kind = record { type = slot.the_type; at = λ s. s.at; alloc = λ s. s.alloc; kept = λ s. s.intervals; make = λ p a k. record { at = p; alloc = a; intervals = k }; found = λ p a k. refl }
