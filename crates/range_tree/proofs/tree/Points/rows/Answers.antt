use Rattle.std.proofs.Common.{ap, ◌∙◌}
use Rattle.std.proofs.lemmas.Option.{IfSome_then}
use Rattle.range_tree.specs.Listings.{by_rows, rows_are}
use Rattle.range_tree.proofs.tree.Points.rows.Goals as goal

pub returns-clause-same : goal.returns-clause-same
returns-clause-same c =
    let m = c.self.inside.map.entries in
    IfSome_then c.aug.result c.aug.ensures.fold (λ rows is. is ∙ rows_are m c.size-number.ensures.increasing ∙ ap by_rows c.self.view_is)
