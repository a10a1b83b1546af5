use Rattle.std.proofs.Common.{◌≡◌, ◌+◌, ◌<◌, [], ◌∷◌, ◌++◌, drop, length, ap, sym, ◌∙◌, arith}
use Rattle.std.specs.List.{slice_range}
use Rattle.tree_walk.specs.Aheads.{behind}
use Rattle.tree_walk.proofs.Dropped.{left_after}
use Rattle.tree_walk.proofs.Fronts.{slice_first}
use Rattle.tree_walk.proofs.Begins.{first_of_run}
use Rattle.tree_walk.proofs.lending.Way.take_following.Goals as goal

pub take_run-requires-clause-follows : goal.take_run-requires-clause-follows
take_run-requires-clause-follows g c =
    let way = c.args.self.now in
    let es = way.tree.now.entries in
    let entry = c.in-Entry.entry in
    let e : g.row.M-Key.Denot × g.row.M-Val.Denot = (entry.key.now, entry.val.now) in
    let seat = c.in-Entry.ensures in
    let on = left_after es (entry.side.now.entries ++ behind c.in-Entry.ahead seat.0) way.after e seat.1 (omega (arith, c.if-self.false, c.requires.way.0)) in
    let run = c.first_run.ensures seat.0 in
    (run.0, on.1 ∙ run.1)

pub returns-in-Entry-clause-first : goal.returns-in-Entry-clause-first
returns-in-Entry-clause-first g c =
    let way = c.args.self.now in
    let es = way.tree.now.entries in
    let entry = c.in-Entry.entry in
    let e : g.row.M-Key.Denot × g.row.M-Val.Denot = (entry.key.now, entry.val.now) in
    let seat = c.in-Entry.ensures in
    let on = left_after es (entry.side.now.entries ++ behind c.in-Entry.ahead seat.0) way.after e seat.1 (omega (arith, c.if-self.false, c.requires.way.0)) in
    ap (λ l. l ++ slice_range es way.after way.end) c.requires.past
    ∙ slice_first es way.after way.end e (omega (arith, c.if-self.false)) on.0
    ∙ ap (λ l. e ∷ l) (sym c.take_run.ensures.left)

pub split_at-requires : goal.split_at-requires
split_at-requires g c = omega (arith, c.in-Inside.ensures.0, ap length c.as_slice.ensures)
