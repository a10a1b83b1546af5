use Rattle.std.proofs.Common.{◌≡◌, List, [], ◌++◌, map, ap, ◌∙◌, sym, rules}
use Rattle.std.proofs.lemmas.List.{nil_from_length}
use Rattle.std.specs.Map.{keys_of}
use Rattle.std.specs.Slice.Iter.{chunks_rest}
use Rattle.interval_map.specs.Intervals.{with_intervals}
use Rattle.interval_map.specs.Numbers.{interval_of}
use Rattle.interval_map.proofs.Listed.{with-more}
use Rattle.interval_map.proofs.Sets.{keys-puts}
use Rattle.interval_map.proofs.sorting.map_of.Goals as goal

pub loop-chunk-init : goal.loop-chunk-init
loop-chunk-init c = (search rules, tt, search rules, search rules)

pub loop-chunk-preserved : goal.loop-chunk-preserved
loop-chunk-preserved c =
    let chunk = c.in-Some.chunk.now in
    let before = keys_of c.loop-chunk.made.entries in
    let rest = chunks_rest c.next.new.self in
    let steps = c.in-Some.ensures.steps in
    let given = ap keys_of c.deref.ensures.value ∙ c.in_ok-entries.ensures in
    let made = ap keys_of c.in_ok-made.ensures ∙ keys-puts c.loop-chunk.made.entries c.deref.result.now ∙ ap (with_intervals before) given in (
      search rules,
      tt,
      steps.0 ∙ c.loop-chunk.invariant.2,
      ap (λ is. with_intervals is (map interval_of rest)) made
          ∙ with-more before chunk rest
          ∙ ap (λ ns. with_intervals before (map interval_of ns)) (sym steps.1.0)
          ∙ c.loop-chunk.invariant.3,
    )

pub returns : goal.returns
returns c =
    let none = nil_from_length _ c.in-None.ensures.steps.1.0 in
    sym (ap (λ ns. with_intervals (keys_of c.loop-chunk.made.entries) (map interval_of ns)) none) ∙ c.loop-chunk.invariant.3
