use Rattle.std.proofs.Common.{List, refl, subst, sym, ◌∙◌}
use Rattle.std.specs.List.Sorted.{IsStableByKey}
use Rattle.std.specs.Ordering.{is_eq}
use Rattle.map_model.specs.Entries.{IsIncreasing}
use Rattle.map_model.proofs.Sorted.{IsIncreasing-dedup}
use Rattle.sorted_lists.proofs.Batches.{batch_of}
use Rattle.sorted_lists.proofs.last.last_of_each_key_counted.Goals as goal

pub returns-clause-value : goal.returns-clause-value
returns-clause-value g c =
    let sorted = c.in_ok-batch.batch.items in
    let stable = subst (λ (xs : List (g.row.K.Denot × g.row.V.Denot)). IsStableByKey (λ (e : g.row.K.Denot × g.row.V.Denot). e.0) g.K.Ord.cmp xs sorted) c.in_ok-newest.ensures c.in_ok-batch.ensures.stable in
    c.keep_first_of_each_counted.ensures.firsts ∙ batch_of (g.met.K.Ord).total (g.met.K.Key).exact c.args.pairs.now sorted c.in_ok-batch.ensures.sorted stable

pub returns-clause-increasing : goal.returns-clause-increasing
returns-clause-increasing g c =
    let alike = λ (x y : g.row.K.Denot × g.row.V.Denot). is_eq (g.K.Ord.cmp x.0 y.0) in
    subst (IsIncreasing g.K.Ord.cmp) (sym c.keep_first_of_each_counted.ensures.firsts) (IsIncreasing-dedup alike (λ x y. refl) (g.met.K.Ord).total c.in_ok-batch.batch.items c.in_ok-batch.ensures.sorted)
