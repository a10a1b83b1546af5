use Rattle.std.proofs.Common.{ap, sym, ◌∙◌}
use Rattle.aug_monoid.specs.Spans.{span_cmp}
use Rattle.map_model.specs.Parts.{left_of}
use Rattle.interval_map.proofs.Reached.{left_of_last, no_last}
use Rattle.interval_map.proofs.valued_asking.last_begun.Goals as goal

pub returns-in_default-greatest-clause-none : goal.returns-in_default-greatest-clause-none
returns-in_default-greatest-clause-none g c = λ _. no_last g.met.E.Ord.total c.args.map.now (sym c.in-Some.ensures.fold ∙ c.in_default-greatest.is)

pub returns-clause-last : goal.returns-clause-last
returns-clause-last g c =
    ap (left_of (span_cmp g.E.Ord.cmp) c.args.map.now) c.in_ok-last.ensures.value
    ∙ left_of_last g.met.E.Ord.total c.args.map.now c.args.hi.now _ (sym c.in-Some.ensures.fold ∙ c.in-Some-greatest.is)
