use Rattle.std.proofs.Common.{◌≡◌, ◌/◌, ◌≤◌, ◌⊎◌, Some}
use Rattle.versions.specs.History.{history}
use Rattle.version_root.specs.Root.{IsStripe}
use Rattle.version_root.specs.Seats.{IsWriterSeat, laid}
use Rattle.version_root.proofs.steps.hand_all.Given as goal

abbrev pub invariant-loop-held : goal.invariant-loop-held
invariant-loop-held g l =
    (l.held ≤ l.count)
    × IsStripe l.held
    × IsWriterSeat l.stripes.table_id l.stripes.key.base.value l.held l.seat.me.1 l.seat
    × ((journal : _) → l.initial.seat.me.1 ≡ laid (l.count / 8) (Some (history l.stripes.key.base.value journal)) → (l.seat.me.1 ≡ laid (l.held / 8) (Some (history l.stripes.key.base.value journal)))
    × (((l.held ≡ l.count) × (l.seat.me.0.seen ≡ l.initial.seat.me.0.seen)) ⊎ (l.seat.me.0.seen ≡ journal)))

abbrev pub decreases-loop-held : goal.decreases-loop-held
decreases-loop-held g l = l.held
