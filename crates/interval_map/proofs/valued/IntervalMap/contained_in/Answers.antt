use Rattle.std.proofs.Common.{◌++◌, ap, sym, ◌∙◌}
use Rattle.std.specs.List.{filter}
use Rattle.std.specs.Ordering.{is_le}
use Rattle.interval_map.specs.IntervalMaps.{contained}
use Rattle.interval_map.proofs.Reached.{within-contained}
use Rattle.interval_map.proofs.valued.IntervalMap.contained_in.Goals as goal

pub loop-entry-init : goal.loop-entry-init
loop-entry-init g c =
    let order = g.E.Ord.cmp in
    let lo = c.args.lo.now in
    let hi = c.args.hi.now in
    let within = rw (c.in_ok-least.ensures.value, c.in_ok-greatest.ensures.value) at c.range_iter-begun.ensures in
    ap (λ m. contained order m lo hi) (sym c.self.view_is)
    ∙ sym (within-contained g.met.E.Ord.total c.self.inside.map lo hi c.self.invariant)
    ∙ ap (λ m. filter (λ e. is_le (order e.0.right hi)) m) (sym within)
    ∙ ap (λ m. filter (λ e. is_le (order e.0.right hi)) m) (sym c.into_iter-entry-iterator.ensures.into_iter_gives)
    ∙ ap (λ l. l ++ filter (λ e. is_le (order e.0.right hi)) c.into_iter-entry-iterator.result) (sym c.new-inside.ensures.items)
