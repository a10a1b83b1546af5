use Rattle.std.proofs.Common.{◌≡◌, ◌-◌, ◌++◌, length, take, drop, sym, ap, ◌∙◌, subst, arith, length-drop, take-append-drop}
use Rattle.std.proofs.lemmas.Result.{IfOk-weaker}
use Rattle.map_model.specs.Entries.{IsIncreasing}
use Rattle.map_model.proofs.Keys.{IsIncreasing-back}
use Rattle.tree_shape.proofs.tree.Tree.take_block.Goals as goal

pub from_owned-requires-clause-increasing : goal.from_owned-requires-clause-increasing
from_owned-requires-clause-increasing g c =
    let from = c.args.from.now.items in
    let at = c.len.result - c.args.count in
    rw c.in_ok-entries.ensures.tail (IsIncreasing-back g.M.Key.Ord.cmp (take at from) (drop at from) (subst (IsIncreasing g.M.Key.Ord.cmp) (sym (take-append-drop at from)) c.requires.increasing))

pub block_or_none-requires-clause-increasing : goal.block_or_none-requires-clause-increasing
block_or_none-requires-clause-increasing g c =
    let from = c.args.from.now.items in
    let at = c.len.result - c.args.count in
    rw (c.in_ok-leaf.ensures, c.in_ok-entries.ensures.tail) (IsIncreasing-back g.M.Key.Ord.cmp (take at from) (drop at from) (subst (IsIncreasing g.M.Key.Ord.cmp) (sym (take-append-drop at from)) c.requires.increasing))

pub from_owned-requires-clause-short : goal.from_owned-requires-clause-short
from_owned-requires-clause-short g c =
    let from = c.args.from.now.items in
    let at = c.len.result - c.args.count in
    rw c.in_ok-entries.ensures.tail (omega (arith, length-drop at from, c.len.ensures, c.requires.short, g.M.Shape.lawful.1))

pub block_or_none-requires-clause-short : goal.block_or_none-requires-clause-short
block_or_none-requires-clause-short g c =
    let from = c.args.from.now.items in
    let at = c.len.result - c.args.count in
    rw (c.in_ok-leaf.ensures, c.in_ok-entries.ensures.tail) (omega (arith, length-drop at from, c.len.ensures, c.requires.short))

pub returns-clause-entries : goal.returns-clause-entries
returns-clause-entries g c =
    let from = c.args.from.now.items in
    let at = c.len.result - c.args.count in
    let whole : c.args.from.now.items ≡ c.split_off.new.self.items ++ drop at from = rw c.in_ok-entries.ensures.items (sym (take-append-drop at from)) in
    IfOk-weaker c.block_or_none.result _ _ (λ tree is. whole ∙ ap (λ x. c.split_off.new.self.items ++ x) (sym (is ∙ c.in_ok-leaf.ensures ∙ c.in_ok-entries.ensures.tail))) c.block_or_none.ensures.entries

pub returns-clause-count : goal.returns-clause-count
returns-clause-count g c =
    let from = c.args.from.now.items in
    let at = c.len.result - c.args.count in
    let counted : length (drop at from) ≡ c.args.count = omega (arith, length-drop at from, c.len.ensures, c.requires.inside) in
    IfOk-weaker c.block_or_none.result _ _ (λ tree is. ap length (is ∙ c.in_ok-leaf.ensures ∙ c.in_ok-entries.ensures.tail) ∙ counted) c.block_or_none.ensures.entries

pub returns-clause-cost : goal.returns-clause-cost
returns-clause-cost g c =
    let from = c.args.from.now.items in
    let at = c.len.result - c.args.count in
    omega (arith, rw (c.in_ok-leaf.ensures, c.in_ok-entries.ensures.tail) at c.block_or_none.ensures.cost, length-drop at from, c.len.ensures, c.requires.inside)
