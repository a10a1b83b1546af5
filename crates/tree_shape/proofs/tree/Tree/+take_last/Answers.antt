use Rattle.std.proofs.lemmas.Grind.{common_steps}
use Rattle.std.proofs.Common.{rules, ◌≡◌, ◌+◌, ◌-◌, ◌/◌, ◌^◌, ◌<◌, [], ◌∷◌, ◌++◌, length, sym, ap, ◌∙◌, subst, arith, append_assoc}
use Rattle.map_model.specs.Entries.{IsIncreasing}
use Rattle.map_model.proofs.Keys.{IsIncreasing-back}
use Rattle.std.proofs.lemmas.Result.{IfOk-weaker}
use Rattle.tree_shape.proofs.Nodes.{length-around, halves_balance, halves_fill}
use Rattle.tree_shape.proofs.Halves.{later_fewer, later_inside, earlier_fewer, rest_increasing, rest_under, rest_enough}
use Rattle.tree_shape.proofs.Refusals.{refused}
use Rattle.tree_shape.proofs.tree.Tree.+take_last.Goals as goal

pub take_last-requires : goal.take_last-requires
take_last-requires g t c κs within =
    let fewer : c.args.count - 1 - (c.args.count - 1) / 2 < c.args.count = later_fewer _ _ c.if-count-BLOCK.false in
    let enough = later_inside _ _ c.requires.inside in
    (search rules, (within.0, (within.1.0, (within.1.1.0, (within.1.1.1.0, (within.1.1.1.1.0, (within.1.1.1.1.1.0, (within.1.1.1.1.1.1, (c.requires.increasing, (c.requires.fits, enough))))))))))

pub take_last-requires-2 : goal.take_last-requires-2
take_last-requires-2 g t c κs within =
    let taken = c.in_ok-right.ensures.entries in
    let popped = c.in-Some.ensures.items in
    let rises = rest_increasing g.M.Key.Ord.cmp _ _ _ _ _ taken popped c.requires.increasing in
    let few = rest_under _ _ _ _ _ taken popped (2 ^ 60) c.requires.fits in
    let fewer : (c.args.count - 1) / 2 < c.args.count = earlier_fewer _ _ c.if-count-BLOCK.false in
    let enough = rest_enough _ _ _ _ _ taken popped c.args.count c.in_ok-right.ensures.count c.requires.inside in
    (search rules, (within.0, (within.1.0, (within.1.1.0, (within.1.1.1.0, (within.1.1.1.1.0, (within.1.1.1.1.1.0, (within.1.1.1.1.1.1, (rises, (few, enough))))))))))

pub node-requires-clause-increasing : goal.node-requires-clause-increasing
node-requires-clause-increasing g t c =
    let from = c.args.from.now.items in
    let rest = c.pop.new.self.items in
    let entry : g.row.M-Key.Denot × g.row.M-Val.Denot = (c.in-Some.key, c.in-Some.val) in
    let right = c.in_ok-right.right.entries in
    let left = c.in_ok-left.left.entries in
    let first = c.take_last-2.new.from.items in
    let whole : from ≡ first ++ (left ++ entry ∷ right) =
    c.in_ok-right.ensures.entries ∙ ap (λ x. x ++ right) c.in-Some.ensures.items ∙ append_assoc rest (entry ∷ []) right
    ∙ ap (λ x. x ++ entry ∷ right) c.in_ok-left.ensures.entries ∙ append_assoc first left (entry ∷ right) in
    IsIncreasing-back g.M.Key.Ord.cmp first (left ++ entry ∷ right) (subst (IsIncreasing g.M.Key.Ord.cmp) whole c.requires.increasing)

pub node-requires-clause-balanced : goal.node-requires-clause-balanced
node-requires-clause-balanced g t c =
    halves_balance c.args.count (length c.in_ok-left.left.entries) (length c.in_ok-right.right.entries) (omega (arith, c.in_ok-left.ensures.count)) (omega (arith, c.in_ok-left.ensures.count, c.in_ok-right.ensures.count, c.if-count-BLOCK.false))

pub node-requires-clause-filled : goal.node-requires-clause-filled
node-requires-clause-filled g t c =
    halves_fill g.M.Shape.BLOCK c.args.count (length c.in_ok-left.left.entries) (length c.in_ok-right.right.entries) (omega (arith, c.in_ok-left.ensures.count)) (omega (arith, c.in_ok-left.ensures.count, c.in_ok-right.ensures.count, c.if-count-BLOCK.false)) (omega (arith, c.if-count-BLOCK.false))

pub unreachable-requires : goal.unreachable-requires
unreachable-requires g t c = grind (arith, common_steps)

pub returns-in_err-left-clause-cost : goal.returns-in_err-left-clause-cost
returns-in_err-left-clause-cost g t c = omega (arith, c.in_ok-right.ensures.cost, c.in_err-left.ensures.cost)

pub returns-in_err-right-clause-cost : goal.returns-in_err-right-clause-cost
returns-in_err-right-clause-cost g t c = omega (arith, c.in_err-right.ensures.cost)

pub returns-clause-entries : goal.returns-clause-entries
returns-clause-entries g t c =
    let rest = c.pop.new.self.items in
    let entry : g.row.M-Key.Denot × g.row.M-Val.Denot = (c.in-Some.key, c.in-Some.val) in
    let right = c.in_ok-right.right.entries in
    let left = c.in_ok-left.left.entries in
    let first = c.take_last-2.new.from.items in
    let whole : c.args.from.now.items ≡ first ++ (left ++ entry ∷ right) =
    c.in_ok-right.ensures.entries ∙ ap (λ x. x ++ right) c.in-Some.ensures.items ∙ append_assoc rest (entry ∷ []) right
    ∙ ap (λ x. x ++ entry ∷ right) c.in_ok-left.ensures.entries ∙ append_assoc first left (entry ∷ right) in
    IfOk-weaker c.node.result (λ tree. tree.entries ≡ left ++ entry ∷ right) (λ tree. c.args.from.now.items ≡ first ++ tree.entries) (λ tree is. whole ∙ ap (λ x. first ++ x) (sym is)) c.node.ensures.entries

pub returns-clause-count : goal.returns-clause-count
returns-clause-count g t c =
    let entry : g.row.M-Key.Denot × g.row.M-Val.Denot = (c.in-Some.key, c.in-Some.val) in
    let left = c.in_ok-left.left.entries in
    let right = c.in_ok-right.right.entries in
    let counted : length left + length right + 1 ≡ c.args.count = omega (arith, c.in_ok-left.ensures.count, c.in_ok-right.ensures.count, c.if-count-BLOCK.false) in
    IfOk-weaker c.node.result (λ tree. tree.entries ≡ left ++ entry ∷ right) (λ tree. length tree.entries ≡ c.args.count) (λ tree is. ap length is ∙ length-around left entry right ∙ counted) c.node.ensures.entries

pub returns-clause-cost : goal.returns-clause-cost
returns-clause-cost g t c = omega (arith, c.in_ok-right.ensures.cost, c.in_ok-left.ensures.cost, c.node.ensures.cost, c.if-count-BLOCK.false)

pub returns-in_err-right-clause-entries : goal.returns-in_err-right-clause-entries
returns-in_err-right-clause-entries g t c = refused c.from_residual.result _ _ c.from_residual.ensures.1

pub returns-in_err-right-clause-count : goal.returns-in_err-right-clause-count
returns-in_err-right-clause-count g t c = refused c.from_residual.result _ _ c.from_residual.ensures.1

pub returns-in_err-left-clause-entries : goal.returns-in_err-left-clause-entries
returns-in_err-left-clause-entries g t c = refused c.from_residual-in_err-left.result _ _ c.from_residual-in_err-left.ensures.1

pub returns-in_err-left-clause-count : goal.returns-in_err-left-clause-count
returns-in_err-left-clause-count g t c = refused c.from_residual-in_err-left.result _ _ c.from_residual-in_err-left.ensures.1
