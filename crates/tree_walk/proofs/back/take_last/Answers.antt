use Rattle.std.proofs.Common.{◌≡◌, ◌+◌, ◌-◌, ◌<◌, ◌++◌, length, take, ap, ◌∙◌, subst, arith}
use Rattle.tree_walk.specs.Places.{IsBackPlace, IsBackPlaceIn}
use Rattle.tree_walk.proofs.Dropped.{takes_read}
use Rattle.tree_walk.proofs.Fronts.{take_before}
use Rattle.tree_walk.proofs.back.take_last.Goals as goal

pub returns-then-inside-gt0-clause-entry : goal.returns-then-inside-gt0-clause-entry
returns-then-inside-gt0-clause-entry g c =
    let es = c.args.tree.now.entries in
    let inside = c.in-Some.inside in
    let block = g.M.Leaf.Leaf.entries inside.leaf.now in
    let place : IsBackPlaceIn g.M.Leaf.Leaf.entries (take (c.args.at + 1) es) inside = subst (IsBackPlace g.M.Leaf.Leaf.entries (take (c.args.at + 1) es)) c.in-Some.is c.requires.back in
    let within : inside.at - 1 < length block = omega (arith, place.within, c.if-inside-gt0.true) in
    let on : inside.at ≡ inside.at - 1 + 1 = omega (arith, c.if-inside-gt0.true) in
    let takes = takes_read block (inside.at - 1) c.read_at.result within c.read_at.ensures.entry in
    (take_before es block place.before c.args.at (inside.at - 1) c.read_at.result (place.left_is ∙ ap (λ n. place.before ++ take n block) on) c.requires.within takes).0

pub returns-then-inside-gt0-clause-back : goal.returns-then-inside-gt0-clause-back
returns-then-inside-gt0-clause-back g c =
    let es = c.args.tree.now.entries in
    let inside = c.in-Some.inside in
    let block = g.M.Leaf.Leaf.entries inside.leaf.now in
    let place : IsBackPlaceIn g.M.Leaf.Leaf.entries (take (c.args.at + 1) es) inside = subst (IsBackPlace g.M.Leaf.Leaf.entries (take (c.args.at + 1) es)) c.in-Some.is c.requires.back in
    let within : inside.at - 1 < length block = omega (arith, place.within, c.if-inside-gt0.true) in
    let on : inside.at ≡ inside.at - 1 + 1 = omega (arith, c.if-inside-gt0.true) in
    let takes = takes_read block (inside.at - 1) c.read_at.result within c.read_at.ensures.entry in
    let both = take_before es block place.before c.args.at (inside.at - 1) c.read_at.result (place.left_is ∙ ap (λ n. place.before ++ take n block) on) c.requires.within takes in
    record { before = place.before; left_is = both.1; within = omega (arith, within) }
