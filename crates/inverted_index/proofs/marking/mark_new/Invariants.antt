use Rattle.std.proofs.Common.{◌≡◌, ◌++◌, drop}
use Rattle.inverted_index.specs.Batches.{all_knowing, marked}
use Rattle.inverted_index.proofs.marking.mark_new.Given as goal

abbrev pub invariant-loop-doc : goal.invariant-loop-doc
invariant-loop-doc g l = record {
  marks : marked l.fn.known.entries l.docs ≡ l.list.items ++ marked l.known.entries (drop l.doc-index l.docs);
  after : all_knowing l.fn.known.entries l.docs ≡ all_knowing l.known.entries (drop l.doc-index l.docs);
}
