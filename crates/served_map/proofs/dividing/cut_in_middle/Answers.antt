use Rattle.std.proofs.Common.{◌≡◌, ◌∷◌, ◌++◌, arith, ap, ◌∙◌}
use Rattle.std.proofs.lemmas.Grind.{common_steps}
use Rattle.std.specs.Option.{option_map}
use Rattle.op_runs.specs.Outcomes.{left_by}
use Rattle.served_map.proofs.Changed.{cut_halves}
use Rattle.served_map.proofs.dividing.cut_in_middle.Goals as goal

pub returns : goal.returns
returns c =
    let middle = c.in-Some.middle.now in
    let sides = c.in_ok-sides.sides in
    let whole : c.args.outcomes.now ≡ c.split_at.result.0.now ++ middle ∷ c.in-Some.back.now = grind (arith, common_steps) in
    let entry_is : c.entry_of-entry.result ≡ option_map (λ val. (middle.0, val)) (left_by middle.1 sides.found) = c.entry_of-entry.ensures ∙ ap (option_map (λ val. (middle.0, val))) c.leaves.ensures in
    cut_halves c.args.outcomes.now c.args.map.entries c.split_at.result.0.now middle c.in-Some.back.now sides.below.entries sides.found c.entry_of-entry.result sides.above.entries whole c.requires c.in_ok-sides.ensures.below c.in_ok-sides.ensures.found c.in_ok-sides.ensures.above entry_is
