use Rattle.std.proofs.Common.{rules, ◌≡◌, ◌∷◌, [], ◌++◌, true, false, cond, take, Some, sym, ap, ◌∙◌, None, arith}
use Rattle.std.specs.List.{slice_get}
use Rattle.std.specs.Option.{option_map}
use Rattle.aug_monoid.specs.Lending.{entry_of}
use Rattle.std.proofs.lemmas.List.{append-nil, take_all}
use Rattle.map_model.specs.Fold.{aug_filter}
use Rattle.map_model.proofs.Places.{entry_there}
use Rattle.tree_filter.proofs.Walks.{filter_more}
use Rattle.tree_filter.proofs.filter.filter_block.Goals as goal

pub loop-at-preserved-then-not-passes : goal.loop-at-preserved-then-not-passes
loop-at-preserved-then-not-passes g c =
    let admits = g.T.AugTest.admits c.args.test.now in
    let entries = g.L.Leaf.entries c.args.leaf.now in
    let e : g.row.A-Key.Denot × g.row.A-Val.Denot = entry_of c.in-Some.entry in
    let entry : slice_get entries c.loop-at._at ≡ Some (entry_of c.in-Some.entry) = sym (rw c.loop-at.invariant.here at c.walk_next.ensures.value) ∙ ap (option_map entry_of) c.in-Some.is in
    let fails : admits (g.A.Augment.base_of (entry_of c.in-Some.entry).0 (entry_of c.in-Some.entry).1) ≡ false = sym (rw (c.key.ensures, c.val.ensures) at c.in_ok-passes.ensures.value) ∙ c.if-not-passes.true in
    let before = aug_filter g.A.Augment.base_of admits (take c.loop-at._at entries) in
    let more = filter_more entries c.loop-at._at e entry (λ d. admits (g.A.Augment.base_of d.0 d.1)) ∙ ap (λ b. before ++ cond b (e ∷ []) []) fails ∙ append-nil before in
    record {
      kept = c.loop-at.invariant.kept ∙ sym more;
      here = search rules;
      fits = search rules;
      cost = omega (arith, c.loop-at.invariant.cost, c.in_ok-passes.ensures.cost);
    }

pub loop-at-preserved : goal.loop-at-preserved
loop-at-preserved g c =
    let admits = g.T.AugTest.admits c.args.test.now in
    let entries = g.L.Leaf.entries c.args.leaf.now in
    let e : g.row.A-Key.Denot × g.row.A-Val.Denot = entry_of c.in-Some.entry in
    let entry : slice_get entries c.loop-at._at ≡ Some (entry_of c.in-Some.entry) = sym (rw c.loop-at.invariant.here at c.walk_next.ensures.value) ∙ ap (option_map entry_of) c.in-Some.is in
    let passes : admits (g.A.Augment.base_of (entry_of c.in-Some.entry).0 (entry_of c.in-Some.entry).1) ≡ true = sym (rw (c.key.ensures, c.val.ensures) at c.in_ok-passes.ensures.value) ∙ c.if-not-passes.false in
    let before = aug_filter g.A.Augment.base_of admits (take c.loop-at._at entries) in
    let more = filter_more entries c.loop-at._at e entry (λ d. admits (g.A.Augment.base_of d.0 d.1)) ∙ ap (λ b. before ++ cond b (e ∷ []) []) passes in
    record {
      kept = rw c.in_ok-into_entry.ensures.value at c.in_ok-push.ensures.items ∙ ap (λ m. m ++ e ∷ []) c.loop-at.invariant.kept ∙ sym more;
      here = search rules;
      fits = search rules;
      cost = omega (arith, c.loop-at.invariant.cost, c.in_ok-passes.ensures.cost);
    }

pub unreachable-requires : goal.unreachable-requires
unreachable-requires g c =
    let entries = g.L.Leaf.entries c.args.leaf.now in
    let none : slice_get entries c.loop-at._at ≡ None = sym (rw c.loop-at.invariant.here at c.walk_next.ensures.value) ∙ ap (option_map entry_of) c.in_default.is in
    entry_there entries c.loop-at._at (omega (arith, c.loop-at-test.true, c.len-at-end.ensures.value)) none

pub returns-clause-kept : goal.returns-clause-kept
returns-clause-kept g c =
    let admits = g.T.AugTest.admits c.args.test.now in
    let entries = g.L.Leaf.entries c.args.leaf.now in
    let whole = take_all c.loop-at._at entries (omega (arith, c.loop-at-test.false, c.len-at-end.ensures.value)) in
    c.loop-at.invariant.kept ∙ ap (aug_filter g.A.Augment.base_of admits) whole
