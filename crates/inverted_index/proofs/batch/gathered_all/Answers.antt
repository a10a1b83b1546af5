use Rattle.inverted_index.proofs.Crosses.{crosses}
use Rattle.inverted_index.proofs.batch.gathered_all.Goals as goal

pub divide-requires-send-O : goal.divide-requires-send-O
divide-requires-send-O g c κs within = search crosses depth 40
