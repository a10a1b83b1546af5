use Rattle.std.proofs.Common.{◌≡◌, [], ◌∷◌, ◌++◌, length, rules, sym, ap, ◌∙◌, arith}
use Rattle.std.proofs.lemmas.List.{nil_from_length}
use Rattle.std.specs.Option.{option_map, option_map_or}
use Rattle.std.specs.Vec.Iter.{into_iter_items}
use Rattle.map_model.specs.SetOperations.{union}
use Rattle.bulk_changes.proofs.Turns.{merged_on, merged_end}
use Rattle.bulk_changes.proofs.merging.merge_in_pass.Goals as goal

pub loop-entry-preserved : goal.loop-entry-preserved
loop-entry-preserved g c =
    let f = g.H.Resolve.resolved c.args.how.now in
    let at = c.loop-entry in
    let entry = c.in-Some.entry in
    let parts = c.cut_front-parts.result in
    let found = option_map (λ v. v.now) parts.found in
    let steps : into_iter_items at.entry-iterator ≡ entry ∷ into_iter_items c.next.new.self = c.in-Some.ensures.steps.0 in
    let pushed : c.push_merged.new.into.items ≡ (at.out.items ++ parts.below.now) ++ (entry.0, option_map_or (λ v. f entry.1 v) found entry.1) ∷ [] = search rules in
    let was = at.invariant.1 in
    let gone = c.in-Some.ensures.steps.1 in
    let short = ap length steps in (
      merged_on g.met.K.Ord.total g.met.K.Key.exact f at.out.items (union g.K.Ord.cmp f c.args.entries.items c.args.few.now) (into_iter_items at.entry-iterator) at.rest.now at.invariant.0 entry (into_iter_items c.next.new.self) parts.below.now parts.above.now c.push_merged.new.into.items found steps c.cut_front-parts.ensures.below c.cut_front-parts.ensures.found c.cut_front-parts.ensures.above pushed,
      omega arith,
    )

pub returns : goal.returns
returns g c =
    let f = g.H.Resolve.resolved c.args.how.now in
    let at = c.loop-entry in
    let empty : into_iter_items at.entry-iterator ≡ [] = nil_from_length (into_iter_items at.entry-iterator) (sym at.invariant.1 ∙ c.in-None.ensures.steps.0) in
    let last : c.push_all_shared.new.into.items ≡ at.out.items ++ at.rest.now = search rules in
    last ∙ merged_end g.met.K.Ord.total g.met.K.Key.exact f at.out.items (union g.K.Ord.cmp f c.args.entries.items c.args.few.now) (into_iter_items at.entry-iterator) at.rest.now at.invariant.0 empty
