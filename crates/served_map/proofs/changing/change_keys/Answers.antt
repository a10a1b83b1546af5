use Rattle.op_runs.specs.declared.outcome.Outcome.TheVariants.{Nothing}
use Rattle.served_map.proofs.Changed.{one_more_at}
use Rattle.served_map.proofs.changing.change_keys.Goals as goal

pub loop-key-preserved : goal.loop-key-preserved
loop-key-preserved g c =
    one_more_at c.args.outcomes.now c.loop-key.key-index (0, Nothing) c.args.map.now.entries c.loop-key.map.entries c.change_key.new.map.entries c.requires.rise c.loop-key-test.true c.loop-key.invariant c.in_ok-change_key.ensures
