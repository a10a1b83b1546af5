use Rattle.std.proofs.Common.{◌≡◌, ℕ, ◌+◌, true, cond, Some, None, [], ◌∷◌, ◌++◌, map, take, drop, sym, ap, ap₂, subst, ◌∙◌, arith}
use Rattle.std.specs.Ordering.{is_eq, is_le, is_lt}
use Rattle.std.specs.List.{slice_get}
use Rattle.std.specs.List.Sorted.{IsSortedByKey}
use Rattle.std.specs.Option.{option_map}
use Rattle.std.proofs.lemmas.List.{append_assoc, drop_all}
use Rattle.std.proofs.lemmas.Result.{IfOk-weaker}
use Rattle.map_model.specs.Entries.{AllAbove, AllKeys, IsIncreasing, lookup}
use Rattle.aug_monoid.specs.Lending.{entry_of}
use Rattle.tree_many.proofs.Merging.{answers_split, increasing_behind, left_at}
use Rattle.tree_many.proofs.Parted.{sorted_drop}
use Rattle.tree_many.proofs.merged.push_merged.Goals as goal

pub loop-at-preserved : goal.loop-at-preserved
loop-at-preserved g c =
    let order = g.K.Ord.cmp in
    let f = g.W.Answer.answer in
    let entries = g.L.Leaf.entries c.args.leaf.now in
    let i = c.loop-at._at in
    let rest = c.loop-at.rest.now in
    let outs = c.loop-at.outs.items in
    let n = c.in_ok-count.count in
    let e : g.row.K.Denot × g.row.V.Denot = entry_of c.in-Some.entry in
    let more = drop (i + 1) entries in
    let found : slice_get entries i ≡ Some e = sym (rw c.loop-at.invariant.0 at c.walk_next.ensures.value) ∙ ap (option_map entry_of) c.in-Some.is in
    let left : drop i entries ≡ e ∷ more = left_at entries i e found in
    let rising : IsIncreasing order (e ∷ more) = subst (IsIncreasing order) left (increasing_behind order entries i c.requires.increasing) in
    let front = subst (λ (k : g.row.K.Denot). AllKeys (λ a. is_le (order a k) ≡ true) (take n rest)) c.key.ensures c.in_ok-count.ensures.front in
    let back = subst (λ (k : g.row.K.Denot). AllAbove order (drop n rest) k) c.key.ensures c.in_ok-count.ensures.back in
    let near = map {B = ℕ × g.row.W-Out.Denot} (λ (x : g.row.K.Denot × ℕ). (x.1, f (cond (is_eq (order x.0 e.0)) (Some e.1) None))) (take n rest) in
    let far = map {B = ℕ × g.row.W-Out.Denot} (λ (x : g.row.K.Denot × ℕ). (x.1, f (lookup order more x.0))) in
    let put : c.push_upto.new.outs.items ≡ outs ++ near = c.in_ok-count.ensures.answers ∙ ap₂ (λ (k : g.row.K.Denot) (v : g.row.V.Denot). outs ++ map {B = ℕ × g.row.W-Out.Denot} (λ (x : g.row.K.Denot × ℕ). (x.1, f (cond (is_eq (order x.0 k)) (Some v) None))) (take n rest)) c.key.ensures c.val.ensures in
    let split = answers_split g.met.K.Ord.total f e.0 e.1 more rising rest n front back in (
      c.in-Some.ensures.moved ∙ ap (λ k. k + 1) c.loop-at.invariant.0,
      c.walk_next.ensures.fits,
      subst (IsSortedByKey (λ (x : g.row.K.Denot × ℕ). x.0) order) (sym c.split_at.ensures.back) (sorted_drop (λ (a b : g.row.K.Denot × ℕ). is_lt (order a.0 b.0)) rest n c.loop-at.invariant.2),
      c.loop-at.invariant.3
          ∙ ap (λ m. outs ++ map {B = ℕ × g.row.W-Out.Denot} (λ (x : g.row.K.Denot × ℕ). (x.1, f (lookup order m x.0))) rest) left
          ∙ ap (λ xs. outs ++ xs) (sym split)
          ∙ sym (append_assoc outs near (far (drop n rest)))
          ∙ ap (λ xs. xs ++ far (drop n rest)) (sym put)
          ∙ ap (λ r. c.push_upto.new.outs.items ++ far r) (sym c.split_at.ensures.back),
    )

pub returns : goal.returns
returns g c =
    let entries = g.L.Leaf.entries c.args.leaf.now in
    let none : drop c.loop-at._at entries ≡ [] = drop_all c.loop-at._at entries (omega (arith, c.loop-at-test.false, c.len-at-end.ensures.value)) in
    let told = c.loop-at.invariant.3 ∙ ap (λ m. c.loop-at.outs.items ++ map {B = ℕ × g.row.W-Out.Denot} (λ (x : g.row.K.Denot × ℕ). (x.1, g.W.Answer.answer (lookup g.K.Ord.cmp m x.0))) c.loop-at.rest.now) none in
    IfOk-weaker c.push_missing.result _ _ (λ x h. h ∙ sym told) c.push_missing.ensures
