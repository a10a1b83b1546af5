use Rattle.op_runs.specs.declared.outcome.Outcome.TheVariants.{Nothing}
use Rattle.served_map.proofs.Merges.{one_more_new}
use Rattle.served_map.proofs.merging.push_new.Goals as goal

pub loop-key-preserved : goal.loop-key-preserved
loop-key-preserved c =
    one_more_new c.args.entries.now.items c.loop-key.entries.items c.push_value.new.entries.items c.args.outcomes.now c.loop-key.key-index (0, Nothing) c.leaves.result c.loop-key-test.true c.loop-key.invariant c.leaves.ensures c.in_ok-push_value.ensures
