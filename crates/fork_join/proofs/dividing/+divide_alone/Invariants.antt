use Rattle.fork_join.proofs.dividing.+divide_alone.Given as goal

abbrev pub decreases-divide_alone : goal.decreases-divide_alone
decreases-divide_alone g l = g.D.Divide.extent l.work.now l.part
