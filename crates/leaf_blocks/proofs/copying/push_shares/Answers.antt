use Rattle.std.proofs.Common.{take, arith}
use Rattle.std.proofs.lemmas.Grind.{common_steps}
use Rattle.map_model.proofs.Prefixes.{front_more}
use Rattle.leaf_blocks.proofs.copying.push_shares.Goals as goal

pub push_reserved-requires : goal.push_reserved-requires
push_reserved-requires g c = grind (arith, common_steps)

pub loop-entry-preserved : goal.loop-entry-preserved
loop-entry-preserved g c = grind (arith, common_steps)

pub returns-clause-items : goal.returns-clause-items
returns-clause-items g c = grind (arith, common_steps)

pub returns-clause-kept : goal.returns-clause-kept
returns-clause-kept g c = front_more c.args.into.now.items c.loop-entry.into.items (take c.loop-entry.entry-index c.args.from.now) c.loop-entry.invariant.0
