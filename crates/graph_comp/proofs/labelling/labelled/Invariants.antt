use Rattle.std.proofs.Common.{◌≡◌, get_or, map, take}
use Rattle.graph_comp.specs.declared.labelled.Labelled.{Labelled}
use Rattle.graph_comp.proofs.labelling.labelled.Given as goal

abbrev pub invariant-loop-place : goal.invariant-loop-place
invariant-loop-place l = record {
  vertices : map (λ (e : Labelled). e.vertex) l.list.items ≡ take l.place l.vertices;
  labels : map (λ (e : Labelled). e.label) l.list.items ≡ map (λ p. get_or l.vertices p 0) (take l.place l.parents);
}
