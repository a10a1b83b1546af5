use Rattle.served_map.proofs.served.ServedState.change.Goals as goal

pub change_by-requires-sync-R : goal.change_by-requires-sync-R
change_by-requires-sync-R g c κs within = record { shared = c.requires.shared }
