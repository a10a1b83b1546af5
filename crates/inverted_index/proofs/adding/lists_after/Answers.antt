use Rattle.inverted_index.proofs.Crosses.{block_sent, block_sync, postings_sent, postings_sync}
use Rattle.inverted_index.proofs.adding.lists_after.Goals as goal

pub union-requires-send-M-Leaf : goal.union-requires-send-M-Leaf
union-requires-send-M-Leaf g c κs within = record { owned = block_sent.owned; leaving = block_sent.leaving }

pub union-requires-sync-M-Leaf : goal.union-requires-sync-M-Leaf
union-requires-sync-M-Leaf g c κs within = record { shared = block_sync.shared }

pub union-requires-send-M-Val : goal.union-requires-send-M-Val
union-requires-send-M-Val g c κs within = record { owned = postings_sent.owned; leaving = postings_sent.leaving }

pub union-requires-sync-M-Val : goal.union-requires-sync-M-Val
union-requires-sync-M-Val g c κs within = record { shared = postings_sync.shared }
