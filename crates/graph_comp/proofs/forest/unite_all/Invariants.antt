use Rattle.std.proofs.Common.{◌≡◌, length}
use Rattle.graph_comp.specs.Forests.{IsForest}
use Rattle.graph_comp.proofs.Trees.{UnitedSo}
use Rattle.graph_comp.proofs.forest.unite_all.Given as goal

abbrev pub invariant-loop-place : goal.invariant-loop-place
invariant-loop-place l = record { forest : IsForest l.parents; len : length l.parents ≡ length l.fn.parents; united : UnitedSo l.parents l.fn.parents l.others l.place }
