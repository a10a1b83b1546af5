use Rattle.std.proofs.Common.{rules, ◌<◌, length, refl, arith}
use Rattle.seq_core.proofs.Changed.{push_fits, push_size, push_sum, push_right}
use Rattle.seq_core.proofs.Owned.{top_node, sizes, node_size}
use Rattle.seq_core.proofs.pushes.+push_in.Goals as goal

pub has_room-requires-clause-block_size : goal.has_room-requires-clause-block_size
has_room-requires-clause-block_size g t c =
    let f = g.F.Fold in
    let seq = c.args.part.tree.now in
    let node = c.in-Some.node.now in
    let own = top_node f.image_of f.unit_of f.combined g.S.BlockSize.SIZE seq node c.in-Node.owner c.tree.inside.top c.in-Some.ensures.value c.in-Node.is c.tree.invariant c.tree.view_is in
    own.shape.block_size

pub has_room-requires-clause-before : goal.has_room-requires-clause-before
has_room-requires-clause-before g t c =
    let f = g.F.Fold in
    let seq = c.args.part.tree.now in
    let node = c.in-Some.node.now in
    let own = top_node f.image_of f.unit_of f.combined g.S.BlockSize.SIZE seq node c.in-Node.owner c.tree.inside.top c.in-Some.ensures.value c.in-Node.is c.tree.invariant c.tree.view_is in
    own.shape.before_is

pub has_room-requires-clause-size : goal.has_room-requires-clause-size
has_room-requires-clause-size g t c =
    let f = g.F.Fold in
    let seq = c.args.part.tree.now in
    let node = c.in-Some.node.now in
    let own = top_node f.image_of f.unit_of f.combined g.S.BlockSize.SIZE seq node c.in-Node.owner c.tree.inside.top c.in-Some.ensures.value c.in-Node.is c.tree.invariant c.tree.view_is in
    node_size seq.items node own

pub has_room-requires-clause-fits : goal.has_room-requires-clause-fits
has_room-requires-clause-fits g t c =
    let f = g.F.Fold in
    let seq = c.args.part.tree.now in
    let node = c.in-Some.node.now in
    let own = top_node f.image_of f.unit_of f.combined g.S.BlockSize.SIZE seq node c.in-Node.owner c.tree.inside.top c.in-Some.ensures.value c.in-Node.is c.tree.invariant c.tree.view_is in
    own.shape.size_fits

pub push_in-requires : goal.push_in-requires
push_in-requires g t c κs within =
    let f = g.F.Fold in
    let seq = c.args.part.tree.now in
    let node = c.in-Some.node.now in
    let own = top_node f.image_of f.unit_of f.combined g.S.BlockSize.SIZE seq node c.in-Node.owner c.tree.inside.top c.in-Some.ensures.value c.in-Node.is c.tree.invariant c.tree.view_is in
    let shorter : length node.right.items < length seq.items = omega (arith, sizes seq.items node own) in
    search rules

pub invariant_of-tree : goal.invariant_of-tree
invariant_of-tree g t c =
    let f = g.F.Fold in
    let seq = c.args.part.tree.now in
    let node = c.in-Some.node.now in
    let own = top_node f.image_of f.unit_of f.combined g.S.BlockSize.SIZE seq node c.in-Node.owner c.tree.inside.top c.in-Some.ensures.value c.in-Node.is c.tree.invariant c.tree.view_is in
    rw c.in_err-push_in.ensures.kept own.shape

pub take_in-requires-clause-block_size : goal.take_in-requires-clause-block_size
take_in-requires-clause-block_size g t c =
    let f = g.F.Fold in
    let seq = c.args.part.tree.now in
    let node = c.in-Some.node.now in
    let own = top_node f.image_of f.unit_of f.combined g.S.BlockSize.SIZE seq node c.in-Node.owner c.tree.inside.top c.in-Some.ensures.value c.in-Node.is c.tree.invariant c.tree.view_is in
    own.shape.block_size

pub take_in-requires-clause-fits : goal.take_in-requires-clause-fits
take_in-requires-clause-fits g t c =
    let f = g.F.Fold in
    let seq = c.args.part.tree.now in
    let node = c.in-Some.node.now in
    let own = top_node f.image_of f.unit_of f.combined g.S.BlockSize.SIZE seq node c.in-Node.owner c.tree.inside.top c.in-Some.ensures.value c.in-Node.is c.tree.invariant c.tree.view_is in
    push_fits seq.items node own c.args.item c.push_in.new.part.0 c.in_ok-push_in.ensures.items (c.if-has_room.ensures refl)

pub take_in-requires-clause-before : goal.take_in-requires-clause-before
take_in-requires-clause-before g t c =
    let f = g.F.Fold in
    let seq = c.args.part.tree.now in
    let node = c.in-Some.node.now in
    let own = top_node f.image_of f.unit_of f.combined g.S.BlockSize.SIZE seq node c.in-Node.owner c.tree.inside.top c.in-Some.ensures.value c.in-Node.is c.tree.invariant c.tree.view_is in
    own.shape.before_is

pub take_in-requires-clause-size : goal.take_in-requires-clause-size
take_in-requires-clause-size g t c =
    let f = g.F.Fold in
    let seq = c.args.part.tree.now in
    let node = c.in-Some.node.now in
    let own = top_node f.image_of f.unit_of f.combined g.S.BlockSize.SIZE seq node c.in-Node.owner c.tree.inside.top c.in-Some.ensures.value c.in-Node.is c.tree.invariant c.tree.view_is in
    push_size seq.items node own c.args.item c.push_in.new.part.0 c.in_ok-push_in.ensures.items

pub take_in-requires-clause-sum : goal.take_in-requires-clause-sum
take_in-requires-clause-sum g t c =
    let f = g.F.Fold in
    let seq = c.args.part.tree.now in
    let node = c.in-Some.node.now in
    let own = top_node f.image_of f.unit_of f.combined g.S.BlockSize.SIZE seq node c.in-Node.owner c.tree.inside.top c.in-Some.ensures.value c.in-Node.is c.tree.invariant c.tree.view_is in
    let law = g.met.F.Fold in
    rw c.requires (push_sum seq.items node own c.args.item c.push_in.new.part.0 c.in_ok-push_in.ensures.items law.monoid law.image_fits)

pub invariant_of-tree-then-has_room : goal.invariant_of-tree-then-has_room
invariant_of-tree-then-has_room g t c =
    let f = g.F.Fold in
    let seq = c.args.part.tree.now in
    let node = c.in-Some.node.now in
    let own = top_node f.image_of f.unit_of f.combined g.S.BlockSize.SIZE seq node c.in-Node.owner c.tree.inside.top c.in-Some.ensures.value c.in-Node.is c.tree.invariant c.tree.view_is in
    let new = push_right seq.items node own c.args.item c.push_in.new.part.0 c.in_ok-push_in.ensures.items c.take_in.new.node (c.if-has_room.ensures refl) c.take_in.ensures in
    new.shape

pub part_some-tree : goal.part_some-tree
part_some-tree g t c = search rules

pub part_none-tree : goal.part_none-tree
part_none-tree g t c = search rules

pub invariant_of-tree-2 : goal.invariant_of-tree-2
invariant_of-tree-2 g t c = search rules

pub push_at_end-requires : goal.push_at_end-requires
push_at_end-requires g t c = c.requires
