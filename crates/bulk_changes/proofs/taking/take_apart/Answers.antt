use Rattle.std.proofs.Common.{rules}
use Rattle.bulk_changes.proofs.taking.take_apart.Goals as goal

pub invariant_of-tree : goal.invariant_of-tree
invariant_of-tree g c = search rules

pub invariant_of-tree-in_err-block_entries-in-Block : goal.invariant_of-tree-in_err-block_entries-in-Block
invariant_of-tree-in_err-block_entries-in-Block g c = search rules

pub invariant_of-tree-in-Block : goal.invariant_of-tree-in-Block
invariant_of-tree-in-Block g c = search rules

pub invariant_of-tree-2 : goal.invariant_of-tree-2
invariant_of-tree-2 g c = search rules
