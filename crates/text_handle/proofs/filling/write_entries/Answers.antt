use Rattle.std.proofs.Common.{◌+◌, ◌≤◌, length, arith}
use Rattle.text_handle.proofs.Rows.{ends_laid, entry_within, keys_more, start_more, vals_laid}
use Rattle.text_handle.proofs.filling.write_entries.Goals as goal

pub slice_bounds-copy_from_slice-end : goal.slice_bounds-copy_from_slice-end
slice_bounds-copy_from_slice-end c =
    let e = c.index-found-at.result in
    let within = entry_within c.args.found.now c.loop-at.at e c.loop-at.start c.loop-at-test.true c.index-found-at.is c.loop-at.invariant.start in
    let fits : c.loop-at.start + length c.as_slice.result.now ≤ length c.loop-at.keys = rw c.as_slice.ensures (omega arith) in
    fits

pub loop-at-preserved : goal.loop-at-preserved
loop-at-preserved c =
    let m = c.args.found.now in
    let i = c.loop-at.at in
    let e = c.index-found-at.result in
    let start = c.loop-at.start in
    let fits = c.loop-at-test.true in
    let is = c.index-found-at.is in
    let old = c.loop-at.invariant in
    let within = entry_within m i e start fits is old.start in
    rw (c.copy_from_slice.ensures.after, c.as_slice-in-loop-at.ensures, c.as_slice.ensures) record {
      start = start_more m i e start fits is old.start;
      keys = keys_more m i e start c.loop-at.keys c.args.keys.now fits is old.start (omega arith) old.keys;
      ends = ends_laid m i e start c.loop-at.ends c.args.ends.now fits is old.start c.requires.end_room old.ends;
      vals = vals_laid m i e c.loop-at.vals c.args.vals.now fits is c.requires.val_room old.vals;
    }
