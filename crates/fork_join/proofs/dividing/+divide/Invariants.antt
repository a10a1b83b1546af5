use Rattle.fork_join.proofs.dividing.+divide.Given as goal

abbrev pub decreases-far : goal.decreases-far
decreases-far g l = g.D.Divide.extent l.work.now l.back

abbrev pub decreases-near : goal.decreases-near
decreases-near g l = g.D.Divide.extent l.work.now l.front

abbrev pub decreases-divide : goal.decreases-divide
decreases-divide g l = g.D.Divide.extent l.work.now l.part
