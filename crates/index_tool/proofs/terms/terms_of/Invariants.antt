use Rattle.std.proofs.Common.{◌≡◌, map, take, drop}
use Rattle.std.specs.List.{AllByRecursion}
use Rattle.inverted_index.specs.Terms.{small}
use Rattle.index_tool.specs.Terms.{IsTerm}
use Rattle.index_tool.proofs.terms.terms_of.Given as goal

abbrev pub invariant-loop-bytes : goal.invariant-loop-bytes
invariant-loop-bytes l = record {
  lawful : AllByRecursion IsTerm (drop l.bytes-index l.named);
  same : l.terms.items ≡ map small (take l.bytes-index l.named);
}
