use Rattle.std.proofs.Common.{◌++◌, [], ◌∙◌, drop, sym, arith}
use Rattle.std.proofs.lemmas.List.{append-nil}
use Rattle.tree_walk.specs.Aheads.{behind}
use Rattle.tree_walk.proofs.Dropped.{takes_behind, takes_first, takes_read}
use Rattle.tree_walk.proofs.back.take_from_root.Goals as goal

pub read_at-requires : goal.read_at-requires
read_at-requires g c = (c.in-Inside.ensures.ahead []).0

pub returns-in-Entry-clause-entry : goal.returns-in-Entry-clause-entry
returns-in-Entry-clause-entry g c =
    let es = c.args.tree.now.entries in
    let e : g.row.M-Key.Denot × g.row.M-Val.Denot = (c.in-Entry.entry.key.now, c.in-Entry.entry.val.now) in
    let seat = c.in-Entry.ensures.ahead [] in
    takes_first es (c.in-Entry.entry.side.now.entries ++ behind c.in-Entry.ahead seat.0) c.args.at e c.share_entry.result (sym (append-nil (drop c.args.at es)) ∙ seat.1) c.requires c.share_entry.ensures.value

pub returns-in-Inside-clause-entry : goal.returns-in-Inside-clause-entry
returns-in-Inside-clause-entry g c =
    let es = c.args.tree.now.entries in
    let block = g.M.Leaf.Leaf.entries c.in-Inside.leaf.now in
    let seat = c.in-Inside.ensures.ahead [] in
    let left_is = sym (append-nil (drop c.args.at es)) ∙ seat.1.1 in
    let takes = takes_read block c.in-Inside.at c.read_at.result seat.0 c.read_at.ensures.entry in
    (takes_behind es block (behind c.in-Inside.ahead seat.1.0) c.args.at c.in-Inside.at c.read_at.result left_is c.requires takes).0

pub returns-in-Inside-clause-back : goal.returns-in-Inside-clause-back
returns-in-Inside-clause-back g c =
    let behind = c.in-Inside.ensures.behind in
    record { before = behind.0; left_is = behind.1; within = omega (arith, (c.in-Inside.ensures.ahead []).0) }
