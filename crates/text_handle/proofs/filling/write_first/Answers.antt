use Rattle.std.proofs.Common.{length, arith}
use Rattle.text_handle.proofs.Fitting.{fitting_places, fitting_room}
use Rattle.text_handle.proofs.filling.write_first.Goals as goal

pub write_entries-requires-clause-key_room : goal.write_entries-requires-clause-key_room
write_entries-requires-clause-key_room c = rw (c.deref.ensures.value, c.in-Ok-first_fitting.ensures) (fitting_room (length c.args.keys.now) (length c.args.vals.now) c.args.rest.now)

pub write_entries-requires-clause-end_room : goal.write_entries-requires-clause-end_room
write_entries-requires-clause-end_room c =
    let few = fitting_places (length c.args.keys.now) (length c.args.vals.now) c.args.rest.now in
    rw (c.deref.ensures.value, c.in-Ok-first_fitting.ensures) (omega arith)

pub write_entries-requires-clause-val_room : goal.write_entries-requires-clause-val_room
write_entries-requires-clause-val_room c = rw (c.deref.ensures.value, c.in-Ok-first_fitting.ensures) (fitting_places (length c.args.keys.now) (length c.args.vals.now) c.args.rest.now)
