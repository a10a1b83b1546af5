use Rattle.tree_shape.proofs.listing.push_shared.Goals as goal

pub returns-clause-appended : goal.returns-clause-appended
returns-clause-appended g c = rw c.in_ok-share_entry.ensures.value at c.in_ok-push.ensures.items
