use Rattle.range_tree.proofs.Crosses.{rows_sent, rows_sync}
use Rattle.range_tree.proofs.tree.Points.del.Goals as goal

pub multi_del-requires-send-M-Aug : goal.multi_del-requires-send-M-Aug
multi_del-requires-send-M-Aug g c κs within = record { owned = rows_sent.owned; leaving = rows_sent.leaving }

pub multi_del-requires-sync-M-Aug : goal.multi_del-requires-sync-M-Aug
multi_del-requires-sync-M-Aug g c κs within = record { shared = rows_sync.shared }
