use Rattle.std.proofs.Common.{◌≡◌, [], ◌∷◌, ◌++◌, Some, None, rules, ap, ◌∙◌}
use Rattle.std.proofs.lemmas.List.{nil_from_length}
use Rattle.std.specs.List.{cons_option}
use Rattle.std.specs.Option.{option_map}
use Rattle.std.specs.Ordering.{nat_cmp}
use Rattle.std.specs.declared.cmp.Ordering.TheVariants.{Less, Equal, Greater}
use Rattle.op_runs.specs.Outcomes.{left_by}
use Rattle.served_map.specs.Halves.{new_entries}
use Rattle.served_map.proofs.Merges.{both_first, entries_end, entry_first, outcome_first, outcomes_end}
use Rattle.served_map.proofs.merging.merged.Goals as goal
use Rattle.served_map.proofs.merging.merged.Goals.{in-Some+in_default-split_first, in_default}

pub loop-near-preserved-in-Less : goal.loop-near-preserved-in-Less
loop-near-preserved-in-Less c =
    let near = c.in-Some.near.now in
    let far = c.in-Some-split_first.far.now in
    let left_is : c.loop-near.left.now ≡ near ∷ c.in-Some.others.now = search rules in
    let right_is : c.loop-near.right.now ≡ far ∷ c.in-Some-split_first.later.now = search rules in
    let compared : nat_cmp near.0 far.0 ≡ Less = search rules in
    let pushed : c.push.new.self.items ≡ c.loop-near.changed.items ++ near ∷ [] = search rules in
    entry_first c.args.outcomes.now c.args.entries.now c.loop-near.changed.items c.loop-near.right.now c.loop-near.left.now c.loop-near.invariant far c.in-Some-split_first.later.now near c.in-Some.others.now c.push.new.self.items right_is left_is compared pushed

pub loop-near-preserved-in-Equal : goal.loop-near-preserved-in-Equal
loop-near-preserved-in-Equal c =
    let near = c.in-Some.near.now in
    let far = c.in-Some-split_first.far.now in
    let left_is : c.loop-near.left.now ≡ near ∷ c.in-Some.others.now = search rules in
    let right_is : c.loop-near.right.now ≡ far ∷ c.in-Some-split_first.later.now = search rules in
    let compared : nat_cmp near.0 far.0 ≡ Equal = search rules in
    let pushed : c.push_value.new.entries.items ≡ c.loop-near.changed.items ++ cons_option (option_map (λ val. (far.0, val)) (left_by far.1 (Some near.1))) [] = search rules in
    both_first c.args.outcomes.now c.args.entries.now c.loop-near.changed.items c.loop-near.right.now c.loop-near.left.now c.loop-near.invariant far c.in-Some-split_first.later.now near c.in-Some.others.now c.push_value.new.entries.items right_is left_is compared pushed

pub loop-near-preserved : goal.loop-near-preserved
loop-near-preserved c =
    let near = c.in-Some.near.now in
    let far = c.in-Some-split_first.far.now in
    let left_is : c.loop-near.left.now ≡ near ∷ c.in-Some.others.now = search rules in
    let right_is : c.loop-near.right.now ≡ far ∷ c.in-Some-split_first.later.now = search rules in
    let compared : nat_cmp near.0 far.0 ≡ Greater = search rules in
    let pushed : c.push_value-in-Greater.new.entries.items ≡ c.loop-near.changed.items ++ cons_option (option_map (λ val. (far.0, val)) (left_by far.1 None)) [] = search rules in
    outcome_first c.args.outcomes.now c.args.entries.now c.loop-near.changed.items c.loop-near.right.now c.loop-near.left.now c.loop-near.invariant far c.in-Some-split_first.later.now near c.in-Some.others.now c.push_value-in-Greater.new.entries.items right_is left_is compared pushed

pub returns : goal.returns
returns c =
    let left = c.loop-near.left.now in
    let right = c.loop-near.right.now in
    let there = c.loop-near.changed.items in
    let first : c.extend_from_slice.new.self.items ≡ there ++ left = search rules in
    let second : c.push_new.new.entries.items ≡ c.extend_from_slice.new.self.items ++ new_entries right = search rules in
    let all : c.push_new.new.entries.items ≡ (there ++ left) ++ new_entries right = second ∙ ap (λ l. l ++ new_entries right) first in
    elim c.match-split_first.branch [
      | in-Some+in_default-split_first w ↦
          let ended : right ≡ [] = nil_from_length right w.in_default-split_first.ensures.cases in
          entries_end c.args.outcomes.now c.args.entries.now there right left c.loop-near.invariant ended c.push_new.new.entries.items all
      | in_default w ↦
          let ended : left ≡ [] = nil_from_length left w.in_default.ensures.cases in
          outcomes_end c.args.outcomes.now c.args.entries.now there right left c.loop-near.invariant ended c.push_new.new.entries.items all
    ]
