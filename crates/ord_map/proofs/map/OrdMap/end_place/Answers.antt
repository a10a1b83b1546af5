use Rattle.std.proofs.Common.{not, length, sym, ap, ◌∙◌}
use Rattle.std.specs.List.{filter}
use Rattle.std.specs.BTreeMap.Range.{is_past_end}
use Rattle.std.specs.Range.Bound.{bound_map}
use Rattle.ord_map.proofs.Between.{all_pass, not_behind, not_from}
use Rattle.ord_map.proofs.map.OrdMap.end_place.Goals as goal

pub returns-in-Included : goal.returns-in-Included
returns-in-Included g c =
    c.count_to.ensures ∙ ap length (sym (not_behind g.met.A.Key.Ord.total c.in-Included.key.now c.args.self.now)) ∙ ap (λ b. length (filter (λ e. not (is_past_end g.A.Key.Ord.cmp (bound_map (λ k. k.now) b) e.0)) c.args.self.now)) (sym c.in-Included.is)

pub returns-in-Excluded : goal.returns-in-Excluded
returns-in-Excluded g c =
    c.rank.ensures ∙ ap length (sym (not_from g.met.A.Key.Ord.total c.in-Excluded.key.now c.args.self.now)) ∙ ap (λ b. length (filter (λ e. not (is_past_end g.A.Key.Ord.cmp (bound_map (λ k. k.now) b) e.0)) c.args.self.now)) (sym c.in-Excluded.is)

pub returns-in-Unbounded : goal.returns-in-Unbounded
returns-in-Unbounded g c =
    c.len.ensures.value ∙ ap length (sym (all_pass c.args.self.now)) ∙ ap (λ b. length (filter (λ e. not (is_past_end g.A.Key.Ord.cmp (bound_map (λ k. k.now) b) e.0)) c.args.self.now)) (sym c.in-Unbounded.is)
