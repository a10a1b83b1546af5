-- What the contracts of a root say, for the crates above: they need no other file of this crate.
pub use Rattle.atomic_table.specs.Seated.{TableId}
pub use Rattle.versions.specs.declared.batch.Entry.{Entry}
pub use Rattle.versions.specs.History.{History, history, batches_in, after, state_of}
pub use Rattle.versions.specs.Prefix.{IsPrefix, longer}
pub use Rattle.version_root.specs.Seats.{Telling, Writing, Reading}
pub use Rattle.version_root.specs.Answers.{Stays, Advances, Loses, Misses, AreFresh, IsStart, fresh_reader}
