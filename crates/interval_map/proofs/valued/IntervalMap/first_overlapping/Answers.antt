use Rattle.std.proofs.Common.{◌≡◌, true, false, cond, None, Some, ap, sym, ◌∙◌}
use Rattle.std.specs.List.{slice_get}
use Rattle.std.specs.Ordering.{is_le}
use Rattle.interval_map.specs.IntervalMaps.{overlapping}
use Rattle.interval_map.proofs.Reached.{first_hit, if_begun}
use Rattle.interval_map.proofs.valued.IntervalMap.first_overlapping.Goals as goal

pub returns-in_default-clause-value : goal.returns-in_default-clause-value
returns-in_default-clause-value g c =
    let order = g.E.Ord.cmp in
    let lo = c.args.lo.now in
    let hi = c.args.hi.now in
    let hit = ap (λ m. slice_get (overlapping order m lo hi) 0) (sym c.self.view_is) ∙ first_hit g.met.E.Ord.total c.self.inside.map lo hi c.len-number.ensures.increasing in
    sym (hit ∙ ap (if_begun g.met.E.Ord.total hi) (sym c.in_ok-first.ensures.value ∙ c.in_default.is))

pub returns-then-is_le-clause-value : goal.returns-then-is_le-clause-value
returns-then-is_le-clause-value g c =
    let order = g.E.Ord.cmp in
    let lo = c.args.lo.now in
    let hi = c.args.hi.now in
    let hit = ap (λ m. slice_get (overlapping order m lo hi) 0) (sym c.self.view_is) ∙ first_hit g.met.E.Ord.total c.self.inside.map lo hi c.len-number.ensures.increasing in
    let test : is_le (order c.in-Some.first.0.left hi) ≡ true = sym (c.is_le.ensures ∙ ap is_le c.cmp.ensures) ∙ c.if-is_le.true in
    sym (hit ∙ ap (if_begun g.met.E.Ord.total hi) (sym c.in_ok-first.ensures.value ∙ c.in-Some.is) ∙ ap (λ t. cond t (Some c.in-Some.first) None) test)

pub returns-else-is_le-clause-value : goal.returns-else-is_le-clause-value
returns-else-is_le-clause-value g c =
    let order = g.E.Ord.cmp in
    let lo = c.args.lo.now in
    let hi = c.args.hi.now in
    let hit = ap (λ m. slice_get (overlapping order m lo hi) 0) (sym c.self.view_is) ∙ first_hit g.met.E.Ord.total c.self.inside.map lo hi c.len-number.ensures.increasing in
    let test : is_le (order c.in-Some.first.0.left hi) ≡ false = sym (c.is_le.ensures ∙ ap is_le c.cmp.ensures) ∙ c.if-is_le.false in
    sym (hit ∙ ap (if_begun g.met.E.Ord.total hi) (sym c.in_ok-first.ensures.value ∙ c.in-Some.is) ∙ ap (λ t. cond t (Some c.in-Some.first) None) test)
