use Rattle.std.proofs.Common.{rules, ◌≡◌, ◌+◌, ◌*◌, ◌^◌, ◌<◌, ◌≤◌, length, Some, IfOk, sym, ap, ◌∙◌, subst, arith}
use Rattle.map_model.specs.Entries.{IsIncreasing, below, above, lookup}
use Rattle.map_model.proofs.Cuts.{length-around}
use Rattle.map_model.proofs.Splits.{IsIncreasing-below, IsIncreasing-above}
use Rattle.bulk_ops.specs.Combination.{entry_at}
use Rattle.map_model.specs.Balance.{weight}
use Rattle.map_model.proofs.Heights.{levels_of_part}
use Rattle.bulk_ops.proofs.Bounds.{entry_pays, block_pays, node_pays}
use Rattle.map_model.proofs.Lengths.{length-sides_le}
use Rattle.bulk_ops.proofs.NodeSides.{node_combined, node_rises}
use Rattle.bulk_ops.proofs.few.+combine_few.Goals as goal

pub combine_few-requires : goal.combine_few-requires
combine_few-requires g t c κs within =
    let left = c.in-Node.left.now.entries in
    let right = c.in-Node.right.now.entries in
    let whole = ap length c.in-Node.ensures.top.entries_are ∙ length-around left (c.in-Node.key.now, c.in-Node.val.now) right in
    let shorter : length left < length c.args.part.tree.now.entries = omega (arith, whole) in
    let increasing : IsIncreasing g.M.Key.Ord.cmp c.cut_slice-parts.result.below.now = subst (IsIncreasing g.M.Key.Ord.cmp) (sym c.cut_slice-parts.ensures.below) (IsIncreasing-below g.M.Key.Ord.cmp c.args.few.now c.in-Node.key.now c.requires.increasing) in
    let short : length c.cut_slice-parts.result.below.now ≤ 4 * g.M.Shape.BLOCK = omega (arith, ap length c.cut_slice-parts.ensures.below, length-sides_le g.M.Key.Ord.cmp c.args.few.now c.in-Node.key.now, c.requires.short) in
    search rules

pub combine_few-requires-in-Node : goal.combine_few-requires-in-Node
combine_few-requires-in-Node g t c κs within =
    let left = c.in-Node.left.now.entries in
    let right = c.in-Node.right.now.entries in
    let whole = ap length c.in-Node.ensures.top.entries_are ∙ length-around left (c.in-Node.key.now, c.in-Node.val.now) right in
    let shorter : length right < length c.args.part.tree.now.entries = omega (arith, whole) in
    let increasing : IsIncreasing g.M.Key.Ord.cmp c.cut_slice-parts.result.above.now = subst (IsIncreasing g.M.Key.Ord.cmp) (sym c.cut_slice-parts.ensures.above) (IsIncreasing-above g.M.Key.Ord.cmp c.args.few.now c.in-Node.key.now c.requires.increasing) in
    let short : length c.cut_slice-parts.result.above.now ≤ 4 * g.M.Shape.BLOCK = omega (arith, ap length c.cut_slice-parts.ensures.above, length-sides_le g.M.Key.Ord.cmp c.args.few.now c.in-Node.key.now, c.requires.short) in
    search rules

pub join_around_counted-requires : goal.join_around_counted-requires
join_around_counted-requires g t c =
    let laws = g.met.W.Combination.laws c.args.how.now in
    let combined = g.W.Combination.combined c.args.how.now in
    let kept = g.W.Combination.kept c.args.how.now in
    let tree = c.args.part.tree.now.entries in
    let few = c.args.few.now in
    let key = c.in-Node.key.now in
    let val = c.in-Node.val.now in
    let node = c.in-Node.ensures.top in
    let left = c.in-Node.left.now.entries in
    let right = c.in-Node.right.now.entries in
    let front = c.in_ok-front-in-Node.front.entries in
    let back = c.in_ok-back-in-Node.back.entries in
    let middle = c.in_ok-kept-in-Node.kept in
    let middle_is : middle ≡ entry_at key (kept (Some val) (lookup g.M.Key.Ord.cmp few key)) = c.in_ok-kept-in-Node.ensures ∙ ap (λ o. entry_at key (kept (Some val) o)) c.cut_slice-parts.ensures.found in
    let front_is : front ≡ combined left (below g.M.Key.Ord.cmp few key) = c.in_ok-front-in-Node.ensures.value ∙ ap (combined left) c.cut_slice-parts.ensures.below in
    let back_is : back ≡ combined right (above g.M.Key.Ord.cmp few key) = c.in_ok-back-in-Node.ensures.value ∙ ap (combined right) c.cut_slice-parts.ensures.above in
    let rises = subst (IsIncreasing g.M.Key.Ord.cmp) (sym node.entries_are) node.increasing in
    let whole = node_combined laws tree few front back left right key val middle node.entries_are rises c.requires.increasing middle_is front_is back_is in
    record { increasing = node_rises laws tree few front back middle rises c.requires.increasing whole }

pub returns-in_ok-kept-in-Node-clause-value : goal.returns-in_ok-kept-in-Node-clause-value
returns-in_ok-kept-in-Node-clause-value g t c =
    let laws = g.met.W.Combination.laws c.args.how.now in
    let combined = g.W.Combination.combined c.args.how.now in
    let kept = g.W.Combination.kept c.args.how.now in
    let tree = c.args.part.tree.now.entries in
    let few = c.args.few.now in
    let key = c.in-Node.key.now in
    let val = c.in-Node.val.now in
    let node = c.in-Node.ensures.top in
    let left = c.in-Node.left.now.entries in
    let right = c.in-Node.right.now.entries in
    let front = c.in_ok-front-in-Node.front.entries in
    let back = c.in_ok-back-in-Node.back.entries in
    let middle = c.in_ok-kept-in-Node.kept in
    let middle_is : middle ≡ entry_at key (kept (Some val) (lookup g.M.Key.Ord.cmp few key)) = c.in_ok-kept-in-Node.ensures ∙ ap (λ o. entry_at key (kept (Some val) o)) c.cut_slice-parts.ensures.found in
    let front_is : front ≡ combined left (below g.M.Key.Ord.cmp few key) = c.in_ok-front-in-Node.ensures.value ∙ ap (combined left) c.cut_slice-parts.ensures.below in
    let back_is : back ≡ combined right (above g.M.Key.Ord.cmp few key) = c.in_ok-back-in-Node.ensures.value ∙ ap (combined right) c.cut_slice-parts.ensures.above in
    let rises = subst (IsIncreasing g.M.Key.Ord.cmp) (sym node.entries_are) node.increasing in
    let whole = node_combined laws tree few front back left right key val middle node.entries_are rises c.requires.increasing middle_is front_is back_is in
    subst (λ l. IfOk c.join_around_counted.result (λ out. out.entries ≡ l)) whole c.join_around_counted.ensures.entries

pub returns-then-is_empty-clause-cost : goal.returns-then-is_empty-clause-cost
returns-then-is_empty-clause-cost g t c n few =
    let some : 1 ≤ length c.args.few.now = omega (arith, c.in-Some.ensures.cases.1) in
    entry_pays g.M.Shape.BLOCK g.M.Leaf.Leaf.FIND n c.args.part.tree.now.height (length c.args.few.now) c.args.steps.now c.combine_one.new.steps some c.combine_one.ensures.cost

pub returns-in_err-front-in-Node-clause-cost : goal.returns-in_err-front-in-Node-clause-cost
returns-in_err-front-in-Node-clause-cost g t c n few =
    let block = g.M.Shape.BLOCK in
    let find = g.M.Leaf.Leaf.FIND in
    let tree = c.args.part.tree.now in
    let list = c.args.few.now in
    let node = c.in-Node.ensures.top in
    let left = c.in-Node.left.now in
    let right = c.in-Node.right.now in
    let below = c.cut_slice-parts.result.below.now in
    let above = c.cut_slice-parts.result.above.now in
    let some : 1 ≤ length list = omega (arith, c.in-Some.ensures.cases.1) in
    let whole : length tree.entries ≡ length left.entries + length right.entries + 1 = ap length node.entries_are ∙ length-around left.entries (c.in-Node.key.now, c.in-Node.val.now) right.entries in
    let shared : length below + length above ≤ length list = omega (arith, ap length c.cut_slice-parts.ensures.below, ap length c.cut_slice-parts.ensures.above, length-sides_le g.M.Key.Ord.cmp list c.in-Node.key.now) in
    let low : left.height + 1 ≤ tree.height = omega (arith, node.height_is) in
    let high : right.height + 1 ≤ tree.height = omega (arith, node.height_is) in
    let cut = c.cut_slice-parts.ensures.cost 10 (let short : length list < 2 ^ 10 = omega (arith, c.requires.short, g.M.Shape.lawful.1) in short) in
    let front = c.combine_few.ensures.cost n (levels_of_part block n (weight left.entries + weight below) (weight tree.entries + weight list) (omega (arith, whole, shared)) few) in
    node_pays block find n tree.height left.height right.height (length list) (length below) (length above) c.args.steps.now c.cut_slice-parts.new.steps c.combine_few.new.steps c.combine_few.new.steps c.combine_few.new.steps low high some shared (omega (arith, cut)) front (omega arith) (omega arith)

pub returns-in_err-back-in-Node-clause-cost : goal.returns-in_err-back-in-Node-clause-cost
returns-in_err-back-in-Node-clause-cost g t c n few =
    let block = g.M.Shape.BLOCK in
    let find = g.M.Leaf.Leaf.FIND in
    let tree = c.args.part.tree.now in
    let list = c.args.few.now in
    let node = c.in-Node.ensures.top in
    let left = c.in-Node.left.now in
    let right = c.in-Node.right.now in
    let below = c.cut_slice-parts.result.below.now in
    let above = c.cut_slice-parts.result.above.now in
    let some : 1 ≤ length list = omega (arith, c.in-Some.ensures.cases.1) in
    let whole : length tree.entries ≡ length left.entries + length right.entries + 1 = ap length node.entries_are ∙ length-around left.entries (c.in-Node.key.now, c.in-Node.val.now) right.entries in
    let shared : length below + length above ≤ length list = omega (arith, ap length c.cut_slice-parts.ensures.below, ap length c.cut_slice-parts.ensures.above, length-sides_le g.M.Key.Ord.cmp list c.in-Node.key.now) in
    let low : left.height + 1 ≤ tree.height = omega (arith, node.height_is) in
    let high : right.height + 1 ≤ tree.height = omega (arith, node.height_is) in
    let cut = c.cut_slice-parts.ensures.cost 10 (let short : length list < 2 ^ 10 = omega (arith, c.requires.short, g.M.Shape.lawful.1) in short) in
    let front = c.combine_few.ensures.cost n (levels_of_part block n (weight left.entries + weight below) (weight tree.entries + weight list) (omega (arith, whole, shared)) few) in
    let back = c.combine_few-in-Node.ensures.cost n (levels_of_part block n (weight right.entries + weight above) (weight tree.entries + weight list) (omega (arith, whole, shared)) few) in
    node_pays block find n tree.height left.height right.height (length list) (length below) (length above) c.args.steps.now c.cut_slice-parts.new.steps c.combine_few.new.steps c.combine_few-in-Node.new.steps c.combine_few-in-Node.new.steps low high some shared (omega (arith, cut)) front back (omega arith)

pub returns-in_err-kept-in-Node-clause-cost : goal.returns-in_err-kept-in-Node-clause-cost
returns-in_err-kept-in-Node-clause-cost g t c n few =
    let block = g.M.Shape.BLOCK in
    let find = g.M.Leaf.Leaf.FIND in
    let tree = c.args.part.tree.now in
    let list = c.args.few.now in
    let node = c.in-Node.ensures.top in
    let left = c.in-Node.left.now in
    let right = c.in-Node.right.now in
    let below = c.cut_slice-parts.result.below.now in
    let above = c.cut_slice-parts.result.above.now in
    let some : 1 ≤ length list = omega (arith, c.in-Some.ensures.cases.1) in
    let whole : length tree.entries ≡ length left.entries + length right.entries + 1 = ap length node.entries_are ∙ length-around left.entries (c.in-Node.key.now, c.in-Node.val.now) right.entries in
    let shared : length below + length above ≤ length list = omega (arith, ap length c.cut_slice-parts.ensures.below, ap length c.cut_slice-parts.ensures.above, length-sides_le g.M.Key.Ord.cmp list c.in-Node.key.now) in
    let low : left.height + 1 ≤ tree.height = omega (arith, node.height_is) in
    let high : right.height + 1 ≤ tree.height = omega (arith, node.height_is) in
    let cut = c.cut_slice-parts.ensures.cost 10 (let short : length list < 2 ^ 10 = omega (arith, c.requires.short, g.M.Shape.lawful.1) in short) in
    let front = c.combine_few.ensures.cost n (levels_of_part block n (weight left.entries + weight below) (weight tree.entries + weight list) (omega (arith, whole, shared)) few) in
    let back = c.combine_few-in-Node.ensures.cost n (levels_of_part block n (weight right.entries + weight above) (weight tree.entries + weight list) (omega (arith, whole, shared)) few) in
    node_pays block find n tree.height left.height right.height (length list) (length below) (length above) c.args.steps.now c.cut_slice-parts.new.steps c.combine_few.new.steps c.combine_few-in-Node.new.steps c.combine_few-in-Node.new.steps low high some shared (omega (arith, cut)) front back (omega arith)

pub returns-in_ok-kept-in-Node-clause-cost : goal.returns-in_ok-kept-in-Node-clause-cost
returns-in_ok-kept-in-Node-clause-cost g t c n few =
    let block = g.M.Shape.BLOCK in
    let find = g.M.Leaf.Leaf.FIND in
    let tree = c.args.part.tree.now in
    let list = c.args.few.now in
    let node = c.in-Node.ensures.top in
    let left = c.in-Node.left.now in
    let right = c.in-Node.right.now in
    let below = c.cut_slice-parts.result.below.now in
    let above = c.cut_slice-parts.result.above.now in
    let some : 1 ≤ length list = omega (arith, c.in-Some.ensures.cases.1) in
    let whole : length tree.entries ≡ length left.entries + length right.entries + 1 = ap length node.entries_are ∙ length-around left.entries (c.in-Node.key.now, c.in-Node.val.now) right.entries in
    let shared : length below + length above ≤ length list = omega (arith, ap length c.cut_slice-parts.ensures.below, ap length c.cut_slice-parts.ensures.above, length-sides_le g.M.Key.Ord.cmp list c.in-Node.key.now) in
    let low : left.height + 1 ≤ tree.height = omega (arith, node.height_is) in
    let high : right.height + 1 ≤ tree.height = omega (arith, node.height_is) in
    let cut = c.cut_slice-parts.ensures.cost 10 (let short : length list < 2 ^ 10 = omega (arith, c.requires.short, g.M.Shape.lawful.1) in short) in
    let front = c.combine_few.ensures.cost n (levels_of_part block n (weight left.entries + weight below) (weight tree.entries + weight list) (omega (arith, whole, shared)) few) in
    let back = c.combine_few-in-Node.ensures.cost n (levels_of_part block n (weight right.entries + weight above) (weight tree.entries + weight list) (omega (arith, whole, shared)) few) in
    let short = (g.met.W.Combination.laws c.args.how.now).short in
    let made : weight c.in_ok-front-in-Node.front.entries + weight c.in_ok-back-in-Node.back.entries ≤ weight tree.entries + weight list =
    omega (arith, whole, shared, ap length c.in_ok-front-in-Node.ensures.value, ap length c.in_ok-back-in-Node.ensures.value, short left.entries below, short right.entries above) in
    let join = c.join_around_counted.ensures.cost n (levels_of_part block n (weight c.in_ok-front-in-Node.front.entries + weight c.in_ok-back-in-Node.back.entries) (weight tree.entries + weight list) made few) in
    node_pays block find n tree.height left.height right.height (length list) (length below) (length above) c.args.steps.now c.cut_slice-parts.new.steps c.combine_few.new.steps c.combine_few-in-Node.new.steps c.join_around_counted.new.steps low high some shared (omega (arith, cut)) front back join

pub returns-in-Block-clause-cost : goal.returns-in-Block-clause-cost
returns-in-Block-clause-cost g t c n few =
    let tree = c.args.part.tree.now in
    let some : 1 ≤ length c.args.few.now = omega (arith, c.in-Some.ensures.cases.1) in
    let short : length tree.entries ≤ 2 * g.M.Shape.BLOCK = omega (arith, ap length c.in-Block.ensures.top.entries_are, c.in-Block.ensures.top.short) in
    block_pays g.M.Shape.BLOCK g.M.Leaf.Leaf.FIND n tree.height (length tree.entries) (length c.args.few.now) c.args.steps.now c.combine_lists-in-Block.new.steps some short c.combine_lists-in-Block.ensures.cost

pub returns-in-Empty-clause-cost : goal.returns-in-Empty-clause-cost
returns-in-Empty-clause-cost g t c n few =
    let tree = c.args.part.tree.now in
    let some : 1 ≤ length c.args.few.now = omega (arith, c.in-Some.ensures.cases.1) in
    let short : length tree.entries ≤ 2 * g.M.Shape.BLOCK = omega (arith, ap length c.in-Empty.ensures.top) in
    block_pays g.M.Shape.BLOCK g.M.Leaf.Leaf.FIND n tree.height (length tree.entries) (length c.args.few.now) c.args.steps.now c.combine_lists.new.steps some short c.combine_lists.ensures.cost
