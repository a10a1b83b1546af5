use Rattle.std.proofs.Common.{◌≡◌, ap, arith}
use Rattle.serve_text.specs.Records.{Answered}
use Rattle.run_check.proofs.TurnLists.{one_more_turn}
use Rattle.run_check.proofs.turns.turns_of.Goals as goal

pub loop-at-preserved : goal.loop-at-preserved
loop-at-preserved g c =
    let a = c.index-reads-at.result in
    let is : c.read.inside.number ≡ a.number = ap (λ (b : Answered g.row.Q.Denot). b.number) c.read.view_is in
    one_more_turn c.args.reads.now c.loop-at.at c.read.inside.number c.loop-at.turns.items c.push.new.self.items a (omega arith) c.index-reads-at.is is c.in_ok-push.ensures.items c.loop-at.invariant
