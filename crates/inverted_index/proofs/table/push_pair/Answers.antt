use Rattle.std.proofs.Common.{◌≡◌, ◌++◌, ◌∷◌, [], Some, None, cond, ap, ◌∙◌, rules, arith}
use Rattle.std.proofs.lemmas.Grind.{common_steps}
use Rattle.std.specs.BTreeMap.{get}
use Rattle.std.specs.Ordering.{is_eq}
use Rattle.inverted_index.proofs.Batches.{pair_more}
use Rattle.inverted_index.specs.Terms.{bytes_cmp}
use Rattle.inverted_index.proofs.table.push_pair.Goals as goal

pub returns-in-Some : goal.returns-in-Some
returns-in-Some c = λ t.
    let value = c.in-Some.ensures.value in
    let is = c.in-Some.is in
    let found : get bytes_cmp c.args.table.now c.args.term.now ≡ Some c.in-Some.pairs.now = first_of (cc, search rules, grind (arith, common_steps)) in
    let written = (c.get_mut.follows.holds c.push.new.self).3 (search rules) in
    pair_more (get bytes_cmp c.args.table.now) c.args.term.now t c.args.doc c.args.weight (Some c.in-Some.pairs.now) (get bytes_cmp (c.get_mut.follows.lender c.push.new.self) t) found (written.0 t ∙ ap (λ x. cond (is_eq (bytes_cmp c.args.term.now t)) (Some x) (get bytes_cmp c.args.table.now t)) c.in_ok-push.ensures)

pub returns : goal.returns
returns c = λ t.
    let value = c.in_default.ensures.value in
    let is = c.in_default.is in
    let none : get bytes_cmp c.args.table.now c.args.term.now ≡ None = first_of (cc, search rules, grind (arith, common_steps)) in
    let pushed : c.push-2.new.self ≡ (c.args.doc, c.args.weight) ∷ [] = c.in_ok-push-2.ensures ∙ ap (λ x. x ++ (c.args.doc, c.args.weight) ∷ []) c.new-pairs.ensures in
    let put = rw c.get_mut.follows.holds-at-none at (c.in_ok-put_first.ensures t) in
    pair_more (get bytes_cmp c.args.table.now) c.args.term.now t c.args.doc c.args.weight None (get bytes_cmp c.put_first.new.table t) none (put ∙ ap (λ x. cond (is_eq (bytes_cmp c.args.term.now t)) (Some x) (get bytes_cmp c.args.table.now t)) pushed)
