use Rattle.std.proofs.Common.{rules, ◌≡◌, ◌+◌, ◌≤◌, Some, sym, ap, ◌∙◌, None, length, arith}
use Rattle.std.specs.List.{slice_get}
use Rattle.std.specs.Option.{option_map}
use Rattle.aug_monoid.specs.Lending.{entry_of}
use Rattle.map_model.specs.Fold.{fold_of}
use Rattle.std.proofs.lemmas.List.{take_all}
use Rattle.tree_query.specs.Within.{within, begin_tests, end_tests}
use Rattle.tree_query.proofs.Costs.{work_over}
use Rattle.tree_query.proofs.Images.{cost_of_none, cost_of_one}
use Rattle.tree_query.proofs.Walks.{image_more, within_same, within_ended, none_past}
use Rattle.tree_query.proofs.project.project_block.Goals as goal

pub returns-then-ends_before-clause-value : goal.returns-then-ends_before-clause-value
returns-then-ends_before-clause-value g c =
    let augment = g.A.Augment in
    let entries = g.L.Leaf.entries c.args.leaf.now in
    let entry : slice_get entries c.loop-at._at ≡ Some (entry_of c.in-Some.entry) = sym (rw c.loop-at.invariant.here at c.walk_next.ensures.value) ∙ ap (option_map entry_of) c.in-Some.is in
    c.loop-at.invariant.out ∙ ap (λ m. g.P.Project.image_of c.args.how.now (fold_of augment.base_of augment.unit_of augment.combined m)) (sym (within_ended g.met.A.Key.Ord.total c.args.range.now entries c.loop-at._at (entry_of c.in-Some.entry).0 (entry_of c.in-Some.entry).1 entry c.requires (sym (rw c.key-key.ensures at c.ends_before.ensures.value) ∙ c.if-ends_before.true)))

pub loop-at-preserved-then-begins_after : goal.loop-at-preserved-then-begins_after
loop-at-preserved-then-begins_after g c =
    let augment = g.A.Augment in
    let entries = g.L.Leaf.entries c.args.leaf.now in
    let entry : slice_get entries c.loop-at._at ≡ Some (entry_of c.in-Some.entry) = sym (rw c.loop-at.invariant.here at c.walk_next.ensures.value) ∙ ap (option_map entry_of) c.in-Some.is in
    let same = within_same g.met.A.Key.Ord.total c.args.range.now entries c.loop-at._at (entry_of c.in-Some.entry).0 (entry_of c.in-Some.entry).1 entry c.requires (sym (rw c.key-key.ensures at c.begins_after.ensures.value) ∙ c.if-begins_after.true) in
    record {
      out = c.loop-at.invariant.out ∙ ap (λ m. g.P.Project.image_of c.args.how.now (fold_of augment.base_of augment.unit_of augment.combined m)) (sym same);
      here = search rules;
      fits = search rules;
      cost = omega (arith, c.loop-at.invariant.cost);
      work = λ most costs. omega (arith, c.loop-at.invariant.work most costs, c.ends_before.ensures.tests, c.begins_after.ensures.tests);
    }

pub loop-at-preserved : goal.loop-at-preserved
loop-at-preserved g c =
    let law = g.met.A.Augment in
    let augment = g.A.Augment in
    let entries = g.L.Leaf.entries c.args.leaf.now in
    let entry : slice_get entries c.loop-at._at ≡ Some (entry_of c.in-Some.entry) = sym (rw c.loop-at.invariant.here at c.walk_next.ensures.value) ∙ ap (option_map entry_of) c.in-Some.is in
    let more = image_more g.met.A.Key.Ord.total c.args.range.now entries c.loop-at._at (entry_of c.in-Some.entry).0 (entry_of c.in-Some.entry).1 entry law.monoid law.base_fits (g.P.Project.image_of c.args.how.now) (g.P.Project.combined c.args.how.now) (g.met.P.Project.projection c.args.how.now) c.requires (sym (rw c.key-key.ensures at c.ends_before.ensures.value) ∙ c.if-ends_before.false) (sym (rw c.key-key.ensures at c.begins_after.ensures.value) ∙ c.if-begins_after.false) in
    record {
      out = c.in_ok-out-2.ensures ∙ rw (c.loop-at.invariant.out, rw (c.key-key.ensures, c.val.ensures) at c.in_ok-image.ensures.value) (sym more);
      here = search rules;
      fits = search rules;
      cost = omega (arith, c.loop-at.invariant.cost, c.in_ok-image.ensures.cost);
      work = λ most costs.
          let taken = c.in_ok-image.ensures.work most (rw (c.key-key.ensures, c.val.ensures) (cost_of_one augment.base_of augment.unit_of augment.combined (g.P.Project.IsImageCost c.args.how.now) (length entries) most costs law.monoid law.base_fits (entry_of c.in-Some.entry).0 (entry_of c.in-Some.entry).1 (omega (arith, c.loop-at-test.true, c.len-at-end.ensures.value)))) in
          omega (arith, c.loop-at.invariant.work most costs, c.ends_before.ensures.tests, c.begins_after.ensures.tests, taken);
    }

pub unreachable-requires : goal.unreachable-requires
unreachable-requires g c =
    let entries = g.L.Leaf.entries c.args.leaf.now in
    let none : slice_get entries c.loop-at._at ≡ None = sym (rw c.loop-at.invariant.here at c.walk_next.ensures.value) ∙ ap (option_map entry_of) c.in_default.is in
    omega (arith, none_past entries c.loop-at._at none, c.loop-at-test.true, c.len-at-end.ensures.value)

pub returns-clause-value : goal.returns-clause-value
returns-clause-value g c =
    let augment = g.A.Augment in
    let entries = g.L.Leaf.entries c.args.leaf.now in
    let whole = take_all c.loop-at._at entries (omega (arith, c.loop-at-test.false, c.len-at-end.ensures.value)) in
    c.loop-at.invariant.out ∙ ap (λ m. g.P.Project.image_of c.args.how.now (fold_of augment.base_of augment.unit_of augment.combined (within g.A.Key.Ord.cmp c.args.range.now m))) whole

pub returns-in_err-image-clause-cost : goal.returns-in_err-image-clause-cost
returns-in_err-image-clause-cost g c = omega (arith, c.imaged.ensures.one_step, c.loop-at.invariant.cost, c.in_err-image.ensures.cost, c.loop-at-test.true, c.len-at-end.ensures.value)

pub returns-in_err-out-2-clause-cost : goal.returns-in_err-out-2-clause-cost
returns-in_err-out-2-clause-cost g c = omega (arith, c.imaged.ensures.one_step, c.loop-at.invariant.cost, c.in_ok-image.ensures.cost, c.loop-at-test.true, c.len-at-end.ensures.value)

pub returns-clause-cost : goal.returns-clause-cost
returns-clause-cost g c = omega (arith, c.imaged.ensures.one_step, c.loop-at.invariant.cost, c.loop-at.auto._at-end, c.len-at-end.ensures.value)

pub returns-in_err-image-clause-work : goal.returns-in_err-image-clause-work
returns-in_err-image-clause-work g c most costs =
    let law = g.met.A.Augment in
    let augment = g.A.Augment in
    let entries = g.L.Leaf.entries c.args.leaf.now in
    let IsCost = g.P.Project.IsImageCost c.args.how.now in
    let lower : c.loop-at._at + 1 ≤ length entries = omega (arith, c.loop-at-test.true, c.len-at-end.ensures.value) in
    let first = c.imaged.ensures.work most (rw c.unit.ensures (cost_of_none augment.base_of augment.unit_of augment.combined IsCost (length entries) most costs)) in
    let taken = c.in_err-image.ensures.work most (rw (c.key-key.ensures, c.val.ensures) (cost_of_one augment.base_of augment.unit_of augment.combined IsCost (length entries) most costs law.monoid law.base_fits (entry_of c.in-Some.entry).0 (entry_of c.in-Some.entry).1 (omega (arith, lower)))) in
    omega (arith, first, c.loop-at.invariant.work most costs, c.ends_before.ensures.tests, c.begins_after.ensures.tests, taken, work_over most (end_tests c.args.range.now + begin_tests c.args.range.now) lower)

pub returns-in_err-out-2-clause-work : goal.returns-in_err-out-2-clause-work
returns-in_err-out-2-clause-work g c most costs =
    let law = g.met.A.Augment in
    let augment = g.A.Augment in
    let entries = g.L.Leaf.entries c.args.leaf.now in
    let IsCost = g.P.Project.IsImageCost c.args.how.now in
    let lower : c.loop-at._at + 1 ≤ length entries = omega (arith, c.loop-at-test.true, c.len-at-end.ensures.value) in
    let first = c.imaged.ensures.work most (rw c.unit.ensures (cost_of_none augment.base_of augment.unit_of augment.combined IsCost (length entries) most costs)) in
    let taken = c.in_ok-image.ensures.work most (rw (c.key-key.ensures, c.val.ensures) (cost_of_one augment.base_of augment.unit_of augment.combined IsCost (length entries) most costs law.monoid law.base_fits (entry_of c.in-Some.entry).0 (entry_of c.in-Some.entry).1 (omega (arith, lower)))) in
    omega (arith, first, c.loop-at.invariant.work most costs, c.ends_before.ensures.tests, c.begins_after.ensures.tests, taken, work_over most (end_tests c.args.range.now + begin_tests c.args.range.now) lower)

pub returns-then-ends_before-clause-work : goal.returns-then-ends_before-clause-work
returns-then-ends_before-clause-work g c most costs =
    let augment = g.A.Augment in
    let entries = g.L.Leaf.entries c.args.leaf.now in
    let IsCost = g.P.Project.IsImageCost c.args.how.now in
    let lower : c.loop-at._at + 1 ≤ length entries = omega (arith, c.loop-at-test.true, c.len-at-end.ensures.value) in
    let first = c.imaged.ensures.work most (rw c.unit.ensures (cost_of_none augment.base_of augment.unit_of augment.combined IsCost (length entries) most costs)) in
    omega (arith, first, c.loop-at.invariant.work most costs, c.ends_before.ensures.tests, work_over most (end_tests c.args.range.now + begin_tests c.args.range.now) lower)

pub returns-clause-work : goal.returns-clause-work
returns-clause-work g c most costs =
    let augment = g.A.Augment in
    let entries = g.L.Leaf.entries c.args.leaf.now in
    let IsCost = g.P.Project.IsImageCost c.args.how.now in
    let ended : c.loop-at._at ≤ length entries = omega (arith, c.loop-at.auto._at-end, c.len-at-end.ensures.value) in
    let first = c.imaged.ensures.work most (rw c.unit.ensures (cost_of_none augment.base_of augment.unit_of augment.combined IsCost (length entries) most costs)) in
    omega (arith, first, c.loop-at.invariant.work most costs, work_over most (end_tests c.args.range.now + begin_tests c.args.range.now) ended)
