use Rattle.std.proofs.Common.{◌≡◌, ◌+◌, ◌<◌, ◌++◌, ap, ◌∙◌, arith}
use Rattle.std.specs.List.{slice_range}
use Rattle.tree_walk.specs.Aheads.{behind}
use Rattle.tree_walk.proofs.Begins.{run_part, behind_run}
use Rattle.tree_walk.proofs.lending.Way.take_run.Goals as goal

pub returns-clause-way : goal.returns-clause-way
returns-clause-way g c =
    let way = c.args.self.now in
    let run = c.args.run in
    let follows = c.requires.follows in (
      c.requires.within,
      λ more. (follows.0, behind_run way.tree.now.entries run.entries.now (behind run.ahead follows.0) way.after follows.1 c.min-most.result (omega (arith, c.min-most.ensures, more, c.requires.before))),
    )

pub returns-clause-left : goal.returns-clause-left
returns-clause-left g c =
    let way = c.args.self.now in
    let run = c.args.run in
    let most = c.min-most.result in
    let follows = c.requires.follows in
    ap (λ l. l ++ slice_range way.tree.now.entries (way.after + most) way.end) c.split_at.ensures.front
    ∙ run_part way.tree.now.entries run.entries.now (behind run.ahead follows.0) way.after follows.1 way.end most (omega (arith, c.min-most.ensures)) (omega (arith, c.min-most.ensures, c.requires.before))
