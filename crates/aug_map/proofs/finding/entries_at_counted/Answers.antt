use Rattle.std.proofs.Common.{◌≡◌, ◌+◌, ◌*◌, ◌≤◌, [], ◌∷◌, ◌++◌, take, Some, None, rules, arith, sym, ap, ◌∙◌}
use Rattle.std.specs.List.{cons_option}
use Rattle.std.specs.Option.{option_map}
use Rattle.map_model.specs.Entries.{lookup}
use Rattle.map_model.specs.Operations.{found_in}
use Rattle.map_model.proofs.Removals.{found_more}
use Rattle.aug_map.proofs.finding.entries_at_counted.Goals as goal
use Rattle.aug_map.proofs.finding.entries_at_counted.Goals.{in-Some+in_ok-share+in_ok-push, in_default}

pub loop-key-preserved : goal.loop-key-preserved
loop-key-preserved g c =
    let cmp = g.M.Key.Ord.cmp in
    let m = c.args.tree.now.entries in
    let keys = c.args.keys.now in
    let i = c.loop-key.key-index in
    let k = c.key-item.result in
    let more = found_more cmp m keys i k c.loop-key-test.true c.key-item.is in
    let counted : c.get.new.steps ≤ c.args.steps.now + (i + 1) * (c.args.tree.now.height + g.M.Leaf.Leaf.FIND) = omega (arith, c.loop-key.invariant.1, c.get.ensures.cost) in
    elim c.match-branch-2.branch [
      | in-Some+in_ok-share+in_ok-push w ↦
          let here : lookup cmp m k ≡ Some w.in-Some.val = search rules in
          let pushed : c.match-branch-2.found.items ≡ c.loop-key.found.items ++ (k, w.in-Some.val) ∷ [] = search rules in
          (pushed ∙ ap (λ x. x ++ (k, w.in-Some.val) ∷ []) c.loop-key.invariant.0 ∙ sym (more ∙ ap (λ o. found_in cmp m (take i keys) ++ cons_option (option_map (λ v. (k, v)) o) []) here), counted)
      | in_default w ↦
          let here : lookup cmp m k ≡ None = search rules in
          let same : c.match-branch-2.found.items ≡ c.loop-key.found.items ++ [] = search rules in
          (same ∙ ap (λ x. x ++ []) c.loop-key.invariant.0 ∙ sym (more ∙ ap (λ o. found_in cmp m (take i keys) ++ cons_option (option_map (λ v. (k, v)) o) []) here), counted)
    ]
