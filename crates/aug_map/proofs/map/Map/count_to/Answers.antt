use Rattle.std.proofs.Common.{◌≡◌, ◌+◌, ◌<◌, ◌≤◌, cond, length, sym, ap, ◌∙◌, subst, arith}
use Rattle.std.specs.Prelude.{IfSome, slice_get}
use Rattle.std.specs.Ordering.{is_eq}
use Rattle.map_model.specs.Parts.{rank}
use Rattle.aug_map.proofs.Counts.{count_past, count_told}
use Rattle.aug_map.proofs.map.Map.count_to.Goals as goal

pub returns-then-before-size-clause-value : goal.returns-then-before-size-clause-value
returns-then-before-size-clause-value g c =
    let past : length c.args.self.now.entries ≤ rank g.M.Key.Ord.cmp c.args.self.now.entries c.args.key.now = omega (arith, c.if-before-size.true, c.rank-before.ensures.value, c.size.ensures.value) in
    c.rank-before.ensures.value ∙ sym (count_past g.met.M.Key.Ord.total c.args.self.now.entries c.args.key.now c.size.ensures.increasing past)

pub returns-then-is_key_at-clause-value : goal.returns-then-is_key_at-clause-value
returns-then-is_key_at-clause-value g c =
    let inside : c.rank-before.result < length c.args.self.now.entries = omega (arith, c.if-before-size.false, c.size.ensures.value) in
    let there = subst (λ m. IfSome (slice_get m.entries c.rank-before.result) (λ e. c.is_key_at.result ≡ is_eq (g.M.Key.Ord.cmp e.0 c.args.key.now))) c.self.view_is c.is_key_at.ensures.value in
    let told = count_told g.met.M.Key.Ord.total c.args.self.now.entries c.args.key.now c.rank-before.result c.is_key_at.result c.size.ensures.increasing c.rank-before.ensures.value inside there in
    sym (told ∙ ap (λ b. c.rank-before.result + cond b 1 0) c.if-is_key_at.true)

pub returns-else-is_key_at-clause-value : goal.returns-else-is_key_at-clause-value
returns-else-is_key_at-clause-value g c =
    let inside : c.rank-before.result < length c.args.self.now.entries = omega (arith, c.if-before-size.false, c.size.ensures.value) in
    let there = subst (λ m. IfSome (slice_get m.entries c.rank-before.result) (λ e. c.is_key_at.result ≡ is_eq (g.M.Key.Ord.cmp e.0 c.args.key.now))) c.self.view_is c.is_key_at.ensures.value in
    let told = count_told g.met.M.Key.Ord.total c.args.self.now.entries c.args.key.now c.rank-before.result c.is_key_at.result c.size.ensures.increasing c.rank-before.ensures.value inside there in
    let plain : c.rank-before.result + 0 ≡ c.rank-before.result = omega arith in
    sym (told ∙ ap (λ b. c.rank-before.result + cond b 1 0) c.if-is_key_at.false ∙ plain)
