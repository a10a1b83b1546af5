use Rattle.std.proofs.Common.{◌≡◌, ℕ, ◌+◌, true, false, cond, Some, None, [], ◌∷◌, ◌++◌, map, take, drop, sym, ap, subst, ◌∙◌}
use Rattle.std.specs.Ordering.{is_eq, is_gt, is_le}
use Rattle.std.proofs.lemmas.List.{append_assoc, map-append, take_more}
use Rattle.map_model.specs.Entries.{AllAbove, AllKeys}
use Rattle.map_model.proofs.Keys.{AllKeys-append}
use Rattle.tree_many.proofs.Merging.{above_from, is_upto}
use Rattle.tree_many.proofs.merged.push_upto.Goals as goal

pub returns-then-is_gt-clause-back : goal.returns-then-is_gt-clause-back
returns-then-is_gt-clause-back g c =
    let keys = c.args.keys.now in
    let key = c.args.key.now in
    let e = c.loop-other-item.result in
    let past : is_gt (g.K.Ord.cmp e.0 key) ≡ true = sym (c.is_gt.ensures ∙ ap is_gt c.cmp-order.ensures) ∙ c.if-is_gt.true in
    subst (λ (n : ℕ). AllAbove g.K.Ord.cmp (drop n keys) key) (sym c.loop-other.invariant.0) (above_from g.met.K.Ord.total key keys c.requires c.loop-other.other-index e c.loop-other-test.true c.loop-other-item.is past)

pub loop-other-preserved : goal.loop-other-preserved
loop-other-preserved g c =
    let order = g.K.Ord.cmp in
    let f = g.W.Answer.answer in
    let keys = c.args.keys.now in
    let key = c.args.key.now in
    let val = c.args.val.now in
    let before = c.args.outs.now.items in
    let i = c.loop-other.other-index in
    let e = c.loop-other-item.result in
    let answer : g.row.K.Denot × ℕ → ℕ × g.row.W-Out.Denot = λ e. (e.1, f (cond (is_eq (order e.0 key)) (Some val) None)) in
    let here : ℕ × g.row.W-Out.Denot = (e.1, c.in_ok-answer_by.field-0) in
    let upto : is_gt (order e.0 key) ≡ false = sym (c.is_gt.ensures ∙ ap is_gt c.cmp-order.ensures) ∙ c.if-is_gt.false in
    let more : take (i + 1) keys ≡ take i keys ++ e ∷ [] = take_more keys i e c.loop-other-test.true ∙ ap (λ x. take i keys ++ x ∷ []) (sym c.loop-other-item.is) in
    let own : c.in_ok-answer_by.field-0 ≡ f (cond (is_eq (order e.0 key)) (Some val) None) = c.in_ok-answer_by.ensures ∙ ap (λ o. f (cond (is_eq o) (Some val) None)) c.cmp-order.ensures in
    let same : here ≡ answer e = ap {B = ℕ × g.row.W-Out.Denot} (λ x. (e.1, x)) own in (
      ap (λ n. n + 1) c.loop-other.invariant.0,
      subst (AllKeys (λ k. is_le (order k key) ≡ true)) (sym more) (AllKeys-append (λ k. is_le (order k key) ≡ true) (take i keys) (e ∷ []) c.loop-other.invariant.1 (is_upto (order e.0 key) upto, tt)),
      c.in_ok-push.ensures.items
          ∙ ap (λ xs. xs ++ here ∷ []) c.loop-other.invariant.2
          ∙ append_assoc before (map answer (take i keys)) (here ∷ [])
          ∙ ap (λ x. before ++ (map answer (take i keys) ++ x ∷ [])) same
          ∙ ap (λ xs. before ++ xs) (sym (ap (map answer) more ∙ map-append answer (take i keys) (e ∷ []))),
    )

pub returns-clause-front : goal.returns-clause-front
returns-clause-front g c =
    subst (λ (n : ℕ). AllKeys (λ k. is_le (g.K.Ord.cmp k c.args.key.now) ≡ true) (take n c.args.keys.now)) (sym c.loop-other.invariant.0) c.loop-other.invariant.1
