use Rattle.std.proofs.Common.{◌++◌, nat_le, ap, sym, ◌∙◌}
use Rattle.std.specs.List.{filter}
use Rattle.std.specs.Map.{keys_of}
use Rattle.interval_map.specs.Intervals.{contained}
use Rattle.interval_map.proofs.Hits.{keys-contained}
use Rattle.interval_map.proofs.intervals.Intervals.contained_in.Goals as goal

pub loop-entry-init : goal.loop-entry-init
loop-entry-init c =
    let begun = rw (c.interval-least.ensures, c.interval-greatest.ensures) at c.range_iter-begun.ensures in
    ap (λ is. contained is c.args.lo c.args.hi) (sym c.self.view_is)
    ∙ sym (keys-contained c.self.inside.map c.args.lo c.args.hi c.self.invariant)
    ∙ ap (λ m. filter (λ i. nat_le i.second c.args.hi) (keys_of m)) (sym begun)
    ∙ ap (λ m. filter (λ i. nat_le i.second c.args.hi) (keys_of m)) (sym c.into_iter-entry-iterator.ensures.into_iter_gives)
    ∙ ap (λ l. l ++ filter (λ i. nat_le i.second c.args.hi) (keys_of c.into_iter-entry-iterator.result)) (sym c.new-inside.ensures.items)
