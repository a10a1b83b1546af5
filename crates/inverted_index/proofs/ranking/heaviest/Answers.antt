use Rattle.std.proofs.lemmas.Option.{MatchOption-at_none}
use Rattle.inverted_index.specs.Ranks.{AreBelow, IsFirst}
use Rattle.inverted_index.proofs.Ranks.{no_greatest}
use Rattle.inverted_index.proofs.ranking.heaviest.Goals as goal

pub unreachable-requires : goal.unreachable-requires
unreachable-requires g c =
    let es = c.args.weights.now.entries in
    let totals = c.in-Some.totals.now in
    no_greatest totals es c.in-Some.ensures.none c.in-Some.ensures.fold (MatchOption-at_none (AreBelow totals.greatest es) (IsFirst es totals.greatest) c.in-None.is c.in_ok-doc.ensures.first)
