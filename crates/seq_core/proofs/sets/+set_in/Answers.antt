use Rattle.std.proofs.Common.{rules, ◌≡◌, ◌-◌, ◌<◌, length, ap, arith}
use Rattle.seq_core.specs.Top.{contents}
use Rattle.seq_core.proofs.Changed.{set_left_fits, set_left, set_here, set_right_fits, set_right}
use Rattle.seq_core.proofs.Owned.{top_node, sizes, sides_fit}
use Rattle.seq_core.proofs.sets.+set_in.Goals as goal
use Rattle.seq_core.proofs.sets.+set_in.Goals.{in-Node+in_default-get_mut, in_default}

pub set_in-requires : goal.set_in-requires
set_in-requires g t c κs within =
    let f = g.F.Fold in
    let seq = c.args.part.tree.now in
    let node = c.in-Some.node.now in
    let own = top_node f.image_of f.unit_of f.combined g.S.BlockSize.SIZE seq node c.in-Node.owner c.tree.inside.top c.in-Some.ensures.value c.in-Node.is c.tree.invariant c.tree.view_is in
    let shorter : length node.left.items < length seq.items = omega (arith, sizes seq.items node own) in
    let inside : c.args.place < length node.left.items = omega (arith, c.if-place-node.true, own.shape.before_is) in
    search rules

pub invariant_of-tree : goal.invariant_of-tree
invariant_of-tree g t c =
    let f = g.F.Fold in
    let seq = c.args.part.tree.now in
    let node = c.in-Some.node.now in
    let own = top_node f.image_of f.unit_of f.combined g.S.BlockSize.SIZE seq node c.in-Node.owner c.tree.inside.top c.in-Some.ensures.value c.in-Node.is c.tree.invariant c.tree.view_is in
    rw c.in_err-set_in.ensures.kept own.shape

pub refresh-requires-clause-block_size : goal.refresh-requires-clause-block_size
refresh-requires-clause-block_size g t c =
    let f = g.F.Fold in
    let seq = c.args.part.tree.now in
    let node = c.in-Some.node.now in
    let own = top_node f.image_of f.unit_of f.combined g.S.BlockSize.SIZE seq node c.in-Node.owner c.tree.inside.top c.in-Some.ensures.value c.in-Node.is c.tree.invariant c.tree.view_is in
    own.shape.block_size

pub refresh-requires-clause-fits : goal.refresh-requires-clause-fits
refresh-requires-clause-fits g t c =
    let f = g.F.Fold in
    let seq = c.args.part.tree.now in
    let node = c.in-Some.node.now in
    let own = top_node f.image_of f.unit_of f.combined g.S.BlockSize.SIZE seq node c.in-Node.owner c.tree.inside.top c.in-Some.ensures.value c.in-Node.is c.tree.invariant c.tree.view_is in
    set_left_fits seq.items node own c.args.place c.args.item c.set_in.new.part.0 c.in_ok-set_in.ensures.items

pub invariant_of-tree-then-place-node : goal.invariant_of-tree-then-place-node
invariant_of-tree-then-place-node g t c =
    let f = g.F.Fold in
    let seq = c.args.part.tree.now in
    let node = c.in-Some.node.now in
    let own = top_node f.image_of f.unit_of f.combined g.S.BlockSize.SIZE seq node c.in-Node.owner c.tree.inside.top c.in-Some.ensures.value c.in-Node.is c.tree.invariant c.tree.view_is in
    let new = set_left seq.items node own c.args.place c.args.item c.set_in.new.part.0 c.refresh.new.node c.if-place-node.true c.in_ok-set_in.ensures.items c.refresh.ensures in
    new.shape

pub returns-then-place-node-clause-items : goal.returns-then-place-node-clause-items
returns-then-place-node-clause-items g t c =
    let f = g.F.Fold in
    let seq = c.args.part.tree.now in
    let node = c.in-Some.node.now in
    let own = top_node f.image_of f.unit_of f.combined g.S.BlockSize.SIZE seq node c.in-Node.owner c.tree.inside.top c.in-Some.ensures.value c.in-Node.is c.tree.invariant c.tree.view_is in
    let new = set_left seq.items node own c.args.place c.args.item c.set_in.new.part.0 c.refresh.new.node c.if-place-node.true c.in_ok-set_in.ensures.items c.refresh.ensures in
    new.items_are

pub refresh-requires-then-place-node-2-clause-block_size : goal.refresh-requires-then-place-node-2-clause-block_size
refresh-requires-then-place-node-2-clause-block_size g t c =
    let f = g.F.Fold in
    let seq = c.args.part.tree.now in
    let node = c.in-Some.node.now in
    let own = top_node f.image_of f.unit_of f.combined g.S.BlockSize.SIZE seq node c.in-Node.owner c.tree.inside.top c.in-Some.ensures.value c.in-Node.is c.tree.invariant c.tree.view_is in
    own.shape.block_size

pub refresh-requires-then-place-node-2-clause-fits : goal.refresh-requires-then-place-node-2-clause-fits
refresh-requires-then-place-node-2-clause-fits g t c =
    let f = g.F.Fold in
    let seq = c.args.part.tree.now in
    let node = c.in-Some.node.now in
    let own = top_node f.image_of f.unit_of f.combined g.S.BlockSize.SIZE seq node c.in-Node.owner c.tree.inside.top c.in-Some.ensures.value c.in-Node.is c.tree.invariant c.tree.view_is in
    sides_fit seq.items node own

pub invariant_of-tree-then-place-node-2 : goal.invariant_of-tree-then-place-node-2
invariant_of-tree-then-place-node-2 g t c =
    let f = g.F.Fold in
    let seq = c.args.part.tree.now in
    let node = c.in-Some.node.now in
    let own = top_node f.image_of f.unit_of f.combined g.S.BlockSize.SIZE seq node c.in-Node.owner c.tree.inside.top c.in-Some.ensures.value c.in-Node.is c.tree.invariant c.tree.view_is in
    let new = set_here seq.items node own c.args.place c.args.item c.refresh-then-place-node-2.new.node c.if-place-node-2.true c.refresh-then-place-node-2.ensures in
    new.shape

pub returns-then-place-node-2-clause-items : goal.returns-then-place-node-2-clause-items
returns-then-place-node-2-clause-items g t c =
    let f = g.F.Fold in
    let seq = c.args.part.tree.now in
    let node = c.in-Some.node.now in
    let own = top_node f.image_of f.unit_of f.combined g.S.BlockSize.SIZE seq node c.in-Node.owner c.tree.inside.top c.in-Some.ensures.value c.in-Node.is c.tree.invariant c.tree.view_is in
    let new = set_here seq.items node own c.args.place c.args.item c.refresh-then-place-node-2.new.node c.if-place-node-2.true c.refresh-then-place-node-2.ensures in
    new.items_are

pub overflow_sub-place_in : goal.overflow_sub-place_in
overflow_sub-place_in g t c = omega (arith, c.if-place-node.false, c.if-place-node-2.false)

pub overflow_sub-place_in-in-Some : goal.overflow_sub-place_in-in-Some
overflow_sub-place_in-in-Some g t c = omega (arith, c.if-place-node.false, c.if-place-node-2.false)

pub set_in-requires-in-Some : goal.set_in-requires-in-Some
set_in-requires-in-Some g t c κs within =
    let f = g.F.Fold in
    let seq = c.args.part.tree.now in
    let node = c.in-Some.node.now in
    let own = top_node f.image_of f.unit_of f.combined g.S.BlockSize.SIZE seq node c.in-Node.owner c.tree.inside.top c.in-Some.ensures.value c.in-Node.is c.tree.invariant c.tree.view_is in
    let shorter : length node.right.items < length seq.items = omega (arith, sizes seq.items node own) in
    let inside : c.args.place - node.before - 1 < length node.right.items = omega (arith, c.if-place-node.false, c.if-place-node-2.false, own.shape.before_is, sizes seq.items node own, c.requires) in
    search rules

pub invariant_of-tree-in-Break-branch-2 : goal.invariant_of-tree-in-Break-branch-2
invariant_of-tree-in-Break-branch-2 g t c =
    let f = g.F.Fold in
    let seq = c.args.part.tree.now in
    let node = c.in-Some.node.now in
    let own = top_node f.image_of f.unit_of f.combined g.S.BlockSize.SIZE seq node c.in-Node.owner c.tree.inside.top c.in-Some.ensures.value c.in-Node.is c.tree.invariant c.tree.view_is in
    rw c.in_err-set_in-2.ensures.kept own.shape

pub refresh-requires-in-Some-clause-block_size : goal.refresh-requires-in-Some-clause-block_size
refresh-requires-in-Some-clause-block_size g t c =
    let f = g.F.Fold in
    let seq = c.args.part.tree.now in
    let node = c.in-Some.node.now in
    let own = top_node f.image_of f.unit_of f.combined g.S.BlockSize.SIZE seq node c.in-Node.owner c.tree.inside.top c.in-Some.ensures.value c.in-Node.is c.tree.invariant c.tree.view_is in
    own.shape.block_size

pub refresh-requires-in-Some-clause-fits : goal.refresh-requires-in-Some-clause-fits
refresh-requires-in-Some-clause-fits g t c =
    let f = g.F.Fold in
    let seq = c.args.part.tree.now in
    let node = c.in-Some.node.now in
    let own = top_node f.image_of f.unit_of f.combined g.S.BlockSize.SIZE seq node c.in-Node.owner c.tree.inside.top c.in-Some.ensures.value c.in-Node.is c.tree.invariant c.tree.view_is in
    set_right_fits seq.items node own c.args.place c.args.item c.set_in-in-Some.new.part.0 (c.args.place - node.before - 1) c.in_ok-set_in-2.ensures.items

pub invariant_of-tree-in-Some : goal.invariant_of-tree-in-Some
invariant_of-tree-in-Some g t c =
    let f = g.F.Fold in
    let seq = c.args.part.tree.now in
    let node = c.in-Some.node.now in
    let own = top_node f.image_of f.unit_of f.combined g.S.BlockSize.SIZE seq node c.in-Node.owner c.tree.inside.top c.in-Some.ensures.value c.in-Node.is c.tree.invariant c.tree.view_is in
    let behind : node.before < c.args.place = omega (arith, c.if-place-node.false, c.if-place-node-2.false) in
    let new = set_right seq.items node own c.args.place c.args.item c.set_in-in-Some.new.part.0 c.refresh-in-Some.new.node behind c.in_ok-set_in-2.ensures.items c.refresh-in-Some.ensures in
    new.shape

pub returns-in-Some-clause-items : goal.returns-in-Some-clause-items
returns-in-Some-clause-items g t c =
    let f = g.F.Fold in
    let seq = c.args.part.tree.now in
    let node = c.in-Some.node.now in
    let own = top_node f.image_of f.unit_of f.combined g.S.BlockSize.SIZE seq node c.in-Node.owner c.tree.inside.top c.in-Some.ensures.value c.in-Node.is c.tree.invariant c.tree.view_is in
    let behind : node.before < c.args.place = omega (arith, c.if-place-node.false, c.if-place-node-2.false) in
    let new = set_right seq.items node own c.args.place c.args.item c.set_in-in-Some.new.part.0 c.refresh-in-Some.new.node behind c.in_ok-set_in-2.ensures.items c.refresh-in-Some.ensures in
    new.items_are

pub part_some-tree : goal.part_some-tree
part_some-tree g t c = search rules

pub part_none-tree : goal.part_none-tree
part_none-tree g t c = search rules

pub invariant_of-tree-2 : goal.invariant_of-tree-2
invariant_of-tree-2 g t c = search rules

pub set_at_end-requires : goal.set_at_end-requires
set_at_end-requires g t c =
    let same : (contents c.match-tree.tree-inside.top).items ≡ c.args.part.tree.now.items = elim c.match-tree.branch [
      | in-Node+in_default-get_mut w ↦ search rules
      | in_default w ↦ search rules
    ] in
    omega (arith, ap length same, c.requires)
