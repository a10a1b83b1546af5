use Rattle.std.proofs.Common.{◌≡◌, ℕ, List, take}
use Rattle.std.specs.BTreeMap.{get}
use Rattle.map_model.specs.Entries.{lookup}
use Rattle.inverted_index.specs.Batches.{grown}
use Rattle.inverted_index.specs.Documents.{AreFit}
use Rattle.inverted_index.specs.Terms.{bytes_cmp, reweighed}
use Rattle.inverted_index.proofs.table.push_doc.Given as goal

abbrev pub invariant-loop-term : goal.invariant-loop-term
invariant-loop-term g l = record {
  after : (t : List ℕ) → get bytes_cmp l.table t ≡ grown l.doc (get bytes_cmp l.fn.table t) (lookup bytes_cmp (take l.term-index (reweighed (λ times. g.W.Weigh.weight l.weigh times l.terms) l.counts)) t);
  fit : AreFit (take l.term-index (reweighed (λ times. g.W.Weigh.weight l.weigh times l.terms) l.counts));
}
