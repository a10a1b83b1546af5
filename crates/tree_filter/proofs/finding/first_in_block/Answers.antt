use Rattle.std.proofs.Common.{rules, ◌≡◌, ◌+◌, true, false, cond, [], ◌∷◌, ◌++◌, take, Some, sym, ap, ◌∙◌, None, arith, refl}
use Rattle.std.specs.List.{filter, slice_get}
use Rattle.std.specs.Option.{option_map}
use Rattle.aug_monoid.specs.Lending.{entry_of}
use Rattle.std.proofs.lemmas.List.{take_all}
use Rattle.map_model.specs.Fold.{aug_filter}
use Rattle.map_model.proofs.Places.{entry_there}
use Rattle.tree_filter.proofs.Firsts.{first_at_end}
use Rattle.tree_filter.proofs.Walks.{filter_more}
use Rattle.tree_filter.proofs.finding.first_in_block.Goals as goal

pub returns-then-branch-clause-value : goal.returns-then-branch-clause-value
returns-then-branch-clause-value g c =
    let entries = g.L.Leaf.entries c.args.leaf.now in
    let p = λ (e : g.row.A-Key.Denot × g.row.A-Val.Denot). g.T.AugTest.admits c.args.test.now (g.A.Augment.base_of e.0 e.1) in
    let e : g.row.A-Key.Denot × g.row.A-Val.Denot = entry_of c.in-Some.entry in
    let i = c.loop-at._at in
    let entry : slice_get entries i ≡ Some e = sym (rw c.loop-at.invariant.here at c.walk_next.ensures.value) ∙ ap (option_map entry_of) c.in-Some.is in
    let passes : p e ≡ true = sym (rw (c.key.ensures, c.val.ensures) at c.in_ok-entry_passes.ensures.value) ∙ c.if-branch.true in
    let here : filter p (take (i + 1) entries) ≡ e ∷ [] = filter_more entries i e entry p ∙ ap (λ m. m ++ cond (p e) (e ∷ []) []) c.loop-at.invariant.none ∙ ap (λ b. cond b (e ∷ []) []) passes in
    ap Some c.in_ok-into_entry.ensures.value ∙ sym (first_at_end p entries (i + 1) e here)

pub loop-at-preserved : goal.loop-at-preserved
loop-at-preserved g c =
    let entries = g.L.Leaf.entries c.args.leaf.now in
    let p = λ (e : g.row.A-Key.Denot × g.row.A-Val.Denot). g.T.AugTest.admits c.args.test.now (g.A.Augment.base_of e.0 e.1) in
    let e : g.row.A-Key.Denot × g.row.A-Val.Denot = entry_of c.in-Some.entry in
    let entry : slice_get entries c.loop-at._at ≡ Some e = sym (rw c.loop-at.invariant.here at c.walk_next.ensures.value) ∙ ap (option_map entry_of) c.in-Some.is in
    let fails : p e ≡ false = sym (rw (c.key.ensures, c.val.ensures) at c.in_ok-entry_passes.ensures.value) ∙ c.if-branch.false in
    record {
      none = filter_more entries c.loop-at._at e entry p ∙ ap (λ m. m ++ cond (p e) (e ∷ []) []) c.loop-at.invariant.none ∙ ap (λ b. cond b (e ∷ []) []) fails;
      cost = omega (arith, c.loop-at.invariant.cost, c.in_ok-entry_passes.ensures.cost);
      here = search rules;
      fits = search rules;
    }

pub unreachable-requires : goal.unreachable-requires
unreachable-requires g c =
    let entries = g.L.Leaf.entries c.args.leaf.now in
    let none : slice_get entries c.loop-at._at ≡ None = sym (rw c.loop-at.invariant.here at c.walk_next.ensures.value) ∙ ap (option_map entry_of) c.in_default.is in
    entry_there entries c.loop-at._at (omega (arith, c.loop-at-test.true, c.len-at-end.ensures.value)) none

pub returns-clause-value : goal.returns-clause-value
returns-clause-value g c =
    let admits = g.T.AugTest.admits c.args.test.now in
    let entries = g.L.Leaf.entries c.args.leaf.now in
    let whole = take_all c.loop-at._at entries (omega (arith, c.loop-at-test.false, c.len-at-end.ensures.value)) in
    let none : aug_filter g.A.Augment.base_of admits entries ≡ [] = ap (aug_filter g.A.Augment.base_of admits) (sym whole) ∙ c.loop-at.invariant.none in
    rw none refl
