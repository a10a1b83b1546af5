use Rattle.std.proofs.Common.{◌/◌, arith, length}
use Rattle.graph_comp.proofs.Walks.{halves}
use Rattle.graph_comp.proofs.spanning.SpanningDivideRefSliceEdgeUnitVecUsize.open.Goals as goal

pub returns-then-part-ge2-clause-opened : goal.returns-then-part-ge2-clause-opened
returns-then-part-ge2-clause-opened g c = halves c.args.self.now.vertices.now c.args.part.now c.split_at.result.0.now c.split_at.result.1.now (length c.args.part.now / 2) c.requires (omega arith) (omega arith) c.split_at.ensures.front c.split_at.ensures.back
