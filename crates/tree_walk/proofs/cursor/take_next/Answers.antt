use Rattle.std.proofs.Common.{◌≡◌, ◌++◌, drop, sym, subst, arith}
use Rattle.tree_walk.specs.Places.{IsPlace, IsPlaceIn}
use Rattle.tree_walk.specs.Aheads.{headed_by}
use Rattle.tree_walk.proofs.Dropped.{takes_behind, takes_following}
use Rattle.tree_walk.proofs.cursor.take_next.Goals as goal

pub returns-then-inside-len-clause-entry : goal.returns-then-inside-len-clause-entry
returns-then-inside-len-clause-entry g c =
    let es = c.args.tree.now.entries in
    let inside = c.in-Some.inside in
    let place : IsPlaceIn g.M.Leaf.Leaf.entries g.M.Leaf.Leaf.fits_walk (drop c.args.at es) inside = subst (IsPlace g.M.Leaf.Leaf.entries g.M.Leaf.Leaf.fits_walk (drop c.args.at es)) c.in-Some.is c.requires.place in
    (takes_behind es (g.M.Leaf.Leaf.entries inside.leaf.now) (headed_by inside.next place.rest) c.args.at inside.at c.take_inside.result place.left_is c.requires.within c.take_inside.ensures.entry).0

pub returns-then-inside-len-clause-place : goal.returns-then-inside-len-clause-place
returns-then-inside-len-clause-place g c =
    let es = c.args.tree.now.entries in
    let inside = c.in-Some.inside in
    let place : IsPlaceIn g.M.Leaf.Leaf.entries g.M.Leaf.Leaf.fits_walk (drop c.args.at es) inside = subst (IsPlace g.M.Leaf.Leaf.entries g.M.Leaf.Leaf.fits_walk (drop c.args.at es)) c.in-Some.is c.requires.place in
    let behind = (takes_behind es (g.M.Leaf.Leaf.entries inside.leaf.now) (headed_by inside.next place.rest) c.args.at inside.at c.take_inside.result place.left_is c.requires.within c.take_inside.ensures.entry).1 in
    subst (λ l. IsPlaceIn g.M.Leaf.Leaf.entries g.M.Leaf.Leaf.fits_walk l c.take_inside.new.place) (sym behind) (c.take_inside.ensures.place place.rest)

pub returns-in-Some-next-clause-entry : goal.returns-in-Some-next-clause-entry
returns-in-Some-next-clause-entry g c =
    let es = c.args.tree.now.entries in
    let inside = c.in-Some.inside in
    let e : g.row.M-Key.Denot × g.row.M-Val.Denot = (c.in-Some-next.key.now, c.in-Some-next.val.now) in
    let place : IsPlaceIn g.M.Leaf.Leaf.entries g.M.Leaf.Leaf.fits_walk (drop c.args.at es) inside = subst (IsPlace g.M.Leaf.Leaf.entries g.M.Leaf.Leaf.fits_walk (drop c.args.at es)) c.in-Some.is c.requires.place in
    let block = g.M.Leaf.Leaf.entries inside.leaf.now in
    let left_is = subst (λ next. drop c.args.at es ≡ drop inside.at block ++ headed_by next place.rest) c.in-Some-next.is place.left_is in
    takes_following es block place.rest c.args.at inside.at e c.share_entry.result left_is (omega (arith, c.len.ensures, c.if-inside-len.false)) c.requires.within c.share_entry.ensures.value
