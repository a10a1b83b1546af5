use Rattle.range_tree.proofs.Crosses.{rows_sent, rows_sync}
use Rattle.range_tree.proofs.tree.with_entries.Goals as goal

pub multi_put-requires-send-M-Aug : goal.multi_put-requires-send-M-Aug
multi_put-requires-send-M-Aug g c κs within = record { owned = rows_sent.owned; leaving = rows_sent.leaving }

pub multi_put-requires-sync-M-Aug : goal.multi_put-requires-sync-M-Aug
multi_put-requires-sync-M-Aug g c κs within = record { shared = rows_sync.shared }

pub multi_put_into-requires-send-M-Aug : goal.multi_put_into-requires-send-M-Aug
multi_put_into-requires-send-M-Aug g c κs within = record { owned = rows_sent.owned; leaving = rows_sent.leaving }

pub multi_put_into-requires-sync-M-Aug : goal.multi_put_into-requires-sync-M-Aug
multi_put_into-requires-sync-M-Aug g c κs within = record { shared = rows_sync.shared }
