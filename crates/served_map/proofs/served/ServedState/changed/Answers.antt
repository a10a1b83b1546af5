use Rattle.served_map.proofs.served.ServedState.changed.Goals as goal

pub applied-requires-sync-R : goal.applied-requires-sync-R
applied-requires-sync-R g c κs within = record { shared = c.requires.shared }
