use Rattle.std.proofs.Common.{not, length, sym, ap, ◌∙◌}
use Rattle.std.specs.List.{filter}
use Rattle.std.specs.BTreeMap.Range.{is_from_start}
use Rattle.std.specs.Range.Bound.{bound_map}
use Rattle.ord_map.proofs.Between.{none_passes, not_behind, not_from}
use Rattle.ord_map.proofs.map.OrdMap.start_place.Goals as goal

pub returns-in-Included : goal.returns-in-Included
returns-in-Included g c =
    c.rank.ensures ∙ ap length (sym (not_from g.met.A.Key.Ord.total c.in-Included.key.now c.args.self.now)) ∙ ap (λ b. length (filter (λ e. not (is_from_start g.A.Key.Ord.cmp (bound_map (λ k. k.now) b) e.0)) c.args.self.now)) (sym c.in-Included.is)

pub returns-in-Excluded : goal.returns-in-Excluded
returns-in-Excluded g c =
    c.count_to.ensures ∙ ap length (sym (not_behind g.met.A.Key.Ord.total c.in-Excluded.key.now c.args.self.now)) ∙ ap (λ b. length (filter (λ e. not (is_from_start g.A.Key.Ord.cmp (bound_map (λ k. k.now) b) e.0)) c.args.self.now)) (sym c.in-Excluded.is)

pub returns-in-Unbounded : goal.returns-in-Unbounded
returns-in-Unbounded g c =
    ap length (sym (none_passes c.args.self.now)) ∙ ap (λ b. length (filter (λ e. not (is_from_start g.A.Key.Ord.cmp (bound_map (λ k. k.now) b) e.0)) c.args.self.now)) (sym c.in-Unbounded.is)
