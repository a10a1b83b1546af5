use Rattle.std.proofs.Common.{◌≡◌, [], ◌∷◌, ◌++◌, Some, map, ap, sym, ◌∙◌}
use Rattle.std.specs.List.{cons_option}
use Rattle.std.specs.declared.cmp.Ordering.TheVariants.{Less, Equal, Greater}
use Rattle.std.proofs.lemmas.List.{nil_from_length}
use Rattle.entry_lists.specs.Changes.{change_at, changes}
use Rattle.entry_lists.specs.declared.changing.Change.TheVariants as change
use Rattle.entry_lists.proofs.Changed.{added, end_added, end_removed, removed, updated}
use Rattle.entry_lists.proofs.changing.changes_of.Goals as goal
use Rattle.entry_lists.proofs.changing.changes_of.Goals.{in-Some+in_default-split_first, in_default}

pub loop-before-preserved-in-Less : goal.loop-before-preserved-in-Less
loop-before-preserved-in-Less g c =
    let before = c.in-Some.before.now in
    let after = c.in-Some-split_first.after.now in
    let left_is : c.loop-before.left.now ≡ before ∷ c.in-Some.others.now = c.in-Some.ensures.cases.0 in
    let right_is : c.loop-before.right.now ≡ after ∷ c.in-Some-split_first.rest.now = c.in-Some-split_first.ensures.cases.0 in
    let compared : g.K.Ord.cmp before.0 after.0 ≡ Less = sym c.in-Less.ensures in
    removed g.met.K.Ord.total g.met.K.Key.exact g.V.PartialEq.eq before after c.in-Some.others.now c.in-Some-split_first.rest.now c.loop-before.left.now c.loop-before.right.now c.loop-before.out.items c.push_removed.new.into.items (changes g.K.Ord.cmp g.V.PartialEq.eq c.args.old.now c.args.new.now) left_is right_is c.loop-before.invariant compared c.in_ok-push_removed-in-Less.ensures

pub loop-before-preserved-in-Equal : goal.loop-before-preserved-in-Equal
loop-before-preserved-in-Equal g c =
    let before = c.in-Some.before.now in
    let after = c.in-Some-split_first.after.now in
    let left_is : c.loop-before.left.now ≡ before ∷ c.in-Some.others.now = c.in-Some.ensures.cases.0 in
    let right_is : c.loop-before.right.now ≡ after ∷ c.in-Some-split_first.rest.now = c.in-Some-split_first.ensures.cases.0 in
    let compared : g.K.Ord.cmp before.0 after.0 ≡ Equal = sym c.in-Equal.ensures in
    updated g.met.K.Ord.total g.met.K.Key.exact g.V.PartialEq.eq before after c.in-Some.others.now c.in-Some-split_first.rest.now c.loop-before.left.now c.loop-before.right.now c.loop-before.out.items c.push_updated.new.into.items (changes g.K.Ord.cmp g.V.PartialEq.eq c.args.old.now c.args.new.now) left_is right_is c.loop-before.invariant compared c.in_ok-push_updated-in-Equal.ensures

pub loop-before-preserved : goal.loop-before-preserved
loop-before-preserved g c =
    let before = c.in-Some.before.now in
    let after = c.in-Some-split_first.after.now in
    let left_is : c.loop-before.left.now ≡ before ∷ c.in-Some.others.now = c.in-Some.ensures.cases.0 in
    let right_is : c.loop-before.right.now ≡ after ∷ c.in-Some-split_first.rest.now = c.in-Some-split_first.ensures.cases.0 in
    let compared : g.K.Ord.cmp before.0 after.0 ≡ Greater = sym c.in-Greater.ensures in
    added g.met.K.Ord.total g.met.K.Key.exact g.V.PartialEq.eq before after c.in-Some.others.now c.in-Some-split_first.rest.now c.loop-before.left.now c.loop-before.right.now c.loop-before.out.items c.push_added.new.into.items (changes g.K.Ord.cmp g.V.PartialEq.eq c.args.old.now c.args.new.now) left_is right_is c.loop-before.invariant compared c.in_ok-push_added-in-Greater.ensures

pub returns : goal.returns
returns g c =
    let left = c.loop-before.left.now in
    let right = c.loop-before.right.now in
    let out = c.loop-before.out.items in
    let whole = changes g.K.Ord.cmp g.V.PartialEq.eq c.args.old.now c.args.new.now in
    let first : c.push_all_removed.new.into.items ≡ out ++ map (λ e. change.Removed e.0 e.1) left = c.in_ok-push_all_removed.ensures in
    let second : c.push_all_added.new.into.items ≡ c.push_all_removed.new.into.items ++ map (λ e. change.Added e.0 e.1) right = c.in_ok-push_all_added.ensures in
    second ∙ ap (λ x. x ++ map (λ e. change.Added e.0 e.1) right) first ∙ elim c.match-split_first.branch [
      | in-Some+in_default-split_first w ↦
          let ended : right ≡ [] = nil_from_length right w.in_default-split_first.ensures.cases in
          end_removed g.met.K.Ord.total g.met.K.Key.exact g.V.PartialEq.eq out whole left right ended c.loop-before.invariant
      | in_default w ↦
          let ended : left ≡ [] = nil_from_length left w.in_default.ensures.cases in
          end_added g.met.K.Ord.total g.met.K.Key.exact g.V.PartialEq.eq out whole left right ended c.loop-before.invariant
    ]
