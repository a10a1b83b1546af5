use Rattle.std.proofs.Common.{◌<◌, ◌≤◌, length, sym, ◌∙◌, arith}
use Rattle.std.proofs.lemmas.Bool.{false_from_ne_true, false≢true, not-true, not-false}
use Rattle.map_model.proofs.Cuts.{drop_sizes, none_of_absent, place_found}
use Rattle.map_model.proofs.Splits.{IsIncreasing-drop_key, drop_key-absent}
use Rattle.tree_change.proofs.Changed.{found_dropped, nothing_left}
use Rattle.tree_change.proofs.blocks.del_in_own_block.Goals as goal

pub returns-then-not-place-clause-entries : goal.returns-then-not-place-clause-entries
returns-then-not-place-clause-entries g c = λ _.
    let entries = g.M.Leaf.Leaf.entries c.args.block.now.leaf in
    let missed = not-true c.seek-place.result.hit c.if-not-place.true in
    let absent = none_of_absent _ (false_from_ne_true _ (λ h. false≢true (sym missed ∙ c.seek-place.ensures.hit.1 h))) in
    sym (drop_key-absent g.met.M.Key.Ord.total g.met.M.Key.Key.exact entries c.args.key.now c.requires.lawful.increasing absent)

pub returns-then-len-eq1-clause-only : goal.returns-then-len-eq1-clause-only
returns-then-len-eq1-clause-only g c = λ _.
    let entries = g.M.Leaf.Leaf.entries c.args.block.now.leaf in
    let at = c.seek-place.result.at in
    let hit = c.seek-place.ensures.hit.0 (not-false _ c.if-not-place.false) in
    let there : at < length entries = rw c.seek-place.ensures.at (place_found g.met.M.Key.Ord.total g.met.M.Key.Key.exact entries c.args.key.now c.requires.lawful.increasing hit) in
    let one : length entries ≤ 1 = omega (arith, c.if-len-eq1.true, c.len.ensures.value) in
    sym (found_dropped g.met.M.Key.Ord.total g.met.M.Key.Key.exact entries c.args.key.now at c.requires.lawful.increasing hit c.seek-place.ensures.at) ∙ nothing_left entries at there one

pub remove_in_own_block-requires-clause-inside : goal.remove_in_own_block-requires-clause-inside
remove_in_own_block-requires-clause-inside g c =
    let hit = c.seek-place.ensures.hit.0 (not-false _ c.if-not-place.false) in
    rw c.seek-place.ensures.at (place_found g.met.M.Key.Ord.total g.met.M.Key.Key.exact (g.M.Leaf.Leaf.entries c.args.block.now.leaf) c.args.key.now c.requires.lawful.increasing hit)

pub returns-clause-lawful : goal.returns-clause-lawful
returns-clause-lawful g c =
    let entries = g.M.Leaf.Leaf.entries c.args.block.now.leaf in
    let hit = c.seek-place.ensures.hit.0 (not-false _ c.if-not-place.false) in
    let rest = c.in_ok-remove_in_own_block.ensures.entries ∙ found_dropped g.met.M.Key.Ord.total g.met.M.Key.Key.exact entries c.args.key.now c.seek-place.result.at c.requires.lawful.increasing hit c.seek-place.ensures.at in
    let sizes = drop_sizes g.met.M.Key.Ord.total g.met.M.Key.Key.exact entries c.args.key.now c.requires.lawful.increasing in
    record {
      increasing = rw rest (IsIncreasing-drop_key g.M.Key.Ord.cmp entries c.args.key.now c.requires.lawful.increasing);
      some = rw rest (omega (arith, sizes.1, c.requires.lawful.some, c.if-len-eq1.false, c.len.ensures.value));
      short = rw rest (omega (arith, sizes.0, c.requires.lawful.short));
      fold_is = c.in_ok-remove_in_own_block.ensures.fold;
    }

pub returns-clause-entries : goal.returns-clause-entries
returns-clause-entries g c = λ _.
    let entries = g.M.Leaf.Leaf.entries c.args.block.now.leaf in
    let hit = c.seek-place.ensures.hit.0 (not-false _ c.if-not-place.false) in
    c.in_ok-remove_in_own_block.ensures.entries ∙ found_dropped g.met.M.Key.Ord.total g.met.M.Key.Key.exact entries c.args.key.now c.seek-place.result.at c.requires.lawful.increasing hit c.seek-place.ensures.at
