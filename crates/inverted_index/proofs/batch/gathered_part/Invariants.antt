use Rattle.std.proofs.Common.{◌≡◌, ℕ, List, map, take}
use Rattle.std.specs.BTreeMap.{get}
use Rattle.std.specs.List.{AllByRecursion}
use Rattle.inverted_index.specs.Batches.{outcome_of, weighed}
use Rattle.inverted_index.specs.Documents.{AreFit}
use Rattle.inverted_index.specs.Queries.{inverted}
use Rattle.inverted_index.specs.Terms.{bytes_cmp, weighed_by}
use Rattle.inverted_index.proofs.batch.gathered_part.Given as goal

abbrev pub invariant-loop-doc : goal.invariant-loop-doc
invariant-loop-doc g l = record {
  found : (t : List ℕ) → get bytes_cmp l.table t ≡ inverted (map (weighed (weighed_by (g.W.Weigh.weight l.weigh))) (take l.doc-index l.docs)) t;
  told : l.outcomes.items ≡ map (outcome_of (weighed_by (g.W.Weigh.weight l.weigh))) (take l.doc-index l.docs);
  fit : AllByRecursion (λ m. AreFit (weighed (weighed_by (g.W.Weigh.weight l.weigh)) m).1) (take l.doc-index l.docs);
}
