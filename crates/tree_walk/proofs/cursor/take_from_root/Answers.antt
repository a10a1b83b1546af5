use Rattle.std.proofs.Common.{[], ◌++◌, ◌∙◌, drop, sym, ap, subst}
use Rattle.std.proofs.lemmas.List.{append-nil}
use Rattle.tree_walk.specs.Places.{IsPlaceIn}
use Rattle.tree_walk.specs.Aheads.{behind, headed_by}
use Rattle.tree_walk.proofs.Dropped.{takes_behind, takes_first}
use Rattle.tree_walk.proofs.cursor.take_from_root.Goals as goal

pub take_inside-entry-requires-clause-within : goal.take_inside-entry-requires-clause-within
take_inside-entry-requires-clause-within g c = (c.in-Inside.ensures.ahead []).0

pub returns-in-Entry-clause-entry : goal.returns-in-Entry-clause-entry
returns-in-Entry-clause-entry g c =
    let es = c.args.tree.now.entries in
    let e : g.row.M-Key.Denot × g.row.M-Val.Denot = (c.in-Entry.entry.key.now, c.in-Entry.entry.val.now) in
    let seat = c.in-Entry.ensures.ahead [] in
    takes_first es (c.in-Entry.entry.side.now.entries ++ behind c.in-Entry.ahead seat.0) c.args.at e c.share_entry.result (sym (append-nil (drop c.args.at es)) ∙ seat.1) c.requires c.share_entry.ensures.value

pub returns-in-Inside-clause-entry : goal.returns-in-Inside-clause-entry
returns-in-Inside-clause-entry g c =
    let es = c.args.tree.now.entries in
    let block = g.M.Leaf.Leaf.entries c.in-Inside.leaf.now in
    let seat = (c.in-Inside.ensures.ahead []).1 in
    let on = c.entry.ensures seat.0 in
    let left_is = sym (append-nil (drop c.args.at es)) ∙ seat.1 ∙ ap (λ l. drop c.in-Inside.at block ++ l) on.1 in
    (takes_behind es block (headed_by c.entry.result on.0) c.args.at c.in-Inside.at c.take_inside-entry.result left_is c.requires c.take_inside-entry.ensures.entry).0

pub returns-in-Inside-clause-place : goal.returns-in-Inside-clause-place
returns-in-Inside-clause-place g c =
    let es = c.args.tree.now.entries in
    let block = g.M.Leaf.Leaf.entries c.in-Inside.leaf.now in
    let seat = (c.in-Inside.ensures.ahead []).1 in
    let on = c.entry.ensures seat.0 in
    let left_is = sym (append-nil (drop c.args.at es)) ∙ seat.1 ∙ ap (λ l. drop c.in-Inside.at block ++ l) on.1 in
    let behind = (takes_behind es block (headed_by c.entry.result on.0) c.args.at c.in-Inside.at c.take_inside-entry.result left_is c.requires c.take_inside-entry.ensures.entry).1 in
    subst (λ l. IsPlaceIn g.M.Leaf.Leaf.entries g.M.Leaf.Leaf.fits_walk l c.take_inside-entry.new.place) (sym behind) (c.take_inside-entry.ensures.place on.0)
