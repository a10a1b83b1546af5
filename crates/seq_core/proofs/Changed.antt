-- A block with changed items, and a node made anew over changed sides.
use Rattle.std.proofs.Common.{◌≡◌, ℕ, ◌+◌, ◌-◌, ◌*◌, ◌^◌, ◌<◌, List, [], ◌∷◌, ◌++◌, length, set, refl, sym, ap, ◌∙◌, arith, append_assoc, length-append, length-set}
use Rattle.std.proofs.Math.Seq.{set-append_seam}
use Rattle.std.proofs.lemmas.List.{set-append_left}
use Rattle.map_model.specs.Balance.{FillsNode, IsBalanced, IsBlockSize, weight}
use Rattle.map_model.specs.Fold.{IsMonoidOver}
use Rattle.map_model.proofs.Cuts.{length-around}
use Rattle.map_model.proofs.Heights.{node_is_long}
use Rattle.seq_core.specs.Contents.{Contents}
use Rattle.seq_core.specs.Refreshed.{IsRefreshed}
use Rattle.seq_core.specs.Room.{HasRoom}
use Rattle.seq_core.specs.Shape.{IsBlock}
use Rattle.seq_core.specs.Sums.{sum_of}
use Rattle.seq_core.specs.declared.tree.Node.{Node}
use Rattle.seq_core.proofs.Owned.{IsNodeOf, node_size, sides_fit}
use Rattle.seq_core.proofs.Parts.{set-around}
use Rattle.seq_core.proofs.Sums.{sum-append, sum-one}

-- a block with another item at a place, and its sum
pub set_block : {E X : Type 0} (image : E → X) (unit : X) (combine : X → X → X) (block : ℕ) (items : List E) (sum : X) (place : ℕ) (x : E)
    → IsBlock image unit combine block items sum → IsBlock image unit combine block (set items place x) (sum_of image unit combine (set items place x))
set_block image unit combine block items sum place x old =
    record {
      block_size = old.block_size;
      some = omega (arith, length-set items place x, old.some);
      short = omega (arith, length-set items place x, old.short);
      sum_is = refl;
    }

module _ {E X : Type 0} {Fits : X → Type 0} {image : E → X} {unit : X} {combine : X → X → X} (monoid : IsMonoidOver Fits unit combine) (image_fits : (e : E) → Fits (image e)) where
  -- the sum of a list with an item behind it
  pub sum_behind : (items : List E) (x : E) → combine (sum_of image unit combine items) (image x) ≡ sum_of image unit combine (items ++ x ∷ [])
  sum_behind items x = ap (combine (sum_of image unit combine items)) (sym (sum-one monoid image_fits x)) ∙ sym (sum-append monoid image_fits items (x ∷ []))

  -- a block that has room with an item more, and its sum
  pub pushed_block : {block : ℕ} (items : List E) (sum : X) (x : E) → IsBlock image unit combine block items sum → length items < 2 * block → IsBlock image unit combine block (items ++ x ∷ []) (combine sum (image x))
  pushed_block items sum x old room =
      record {
        block_size = old.block_size;
        some = omega (arith, length-append items (x ∷ []), old.some);
        short = omega (arith, length-append items (x ∷ []), room);
        sum_is = ap (λ s. combine s (image x)) old.sum_is ∙ sum_behind items x;
      }

module _ {F S E X : Type 0} (image : E → X) (unit : X) (combine : X → X → X) (block : ℕ) where
  pub changed : (left : Contents E) (item : E) (right : Contents E) (node : Node F S E X) (items : List E)
      → IsBlockSize block → IsRefreshed image unit combine block left item right node → left.items ++ item ∷ right.items ≡ items
      → IsBalanced (weight left.items) (weight right.items) → FillsNode block (length left.items) (length right.items) → length left.items + length right.items + 1 < 2 ^ 60
      → IsNodeOf image unit combine block items node
  changed left item right node items block_size new is balanced filled fits =
      record {
        shape = rw (new.left_is, new.item_is, new.right_is) (record {
          block_size = block_size;
          before_is = new.before_is;
          sum_is = new.sum_is;
          size_is = new.size_is ∙ sym (length-around left.items item right.items);
          size_fits = omega (arith, new.size_is, fits);
          height_is = new.height_is;
          balanced = balanced;
          long = let long = node_is_long block (length left.items) (length right.items) filled in omega (arith, new.size_is, long);
          filled = filled;
          law = new.law balanced filled;
        });
        items_are = rw (new.left_is, new.item_is, new.right_is) is;
      }

module _ {F S E X : Type 0} {image : E → X} {unit : X} {combine : X → X → X} {block : ℕ} (items : List E) (node : Node F S E X) (own : IsNodeOf image unit combine block items node) where
  -- over sides of as many items a node stays one
  as_long : (left : Contents E) (item : E) (right : Contents E) (new : Node F S E X) (whole : List E)
      → length left.items ≡ length node.left.items → length right.items ≡ length node.right.items
      → IsRefreshed image unit combine block left item right new → left.items ++ item ∷ right.items ≡ whole → IsNodeOf image unit combine block whole new
  as_long left item right new whole left_as right_as refreshed is =
      changed image unit combine block left item right new whole own.shape.block_size refreshed is
      (rw (left_as, right_as) own.shape.balanced) (rw (left_as, right_as) own.shape.filled) (rw (left_as, right_as) (sides_fit items node own))

  module _ (place : ℕ) (x : E) where
    pub set_left_fits : (side : Contents E) → side.items ≡ set node.left.items place x → length side.items + length node.right.items + 1 < 2 ^ 60
    set_left_fits side put = omega (arith, ap length put, length-set node.left.items place x, sides_fit items node own)

    pub set_left : (side : Contents E) (new : Node F S E X) → place < node.before → side.items ≡ set node.left.items place x
        → IsRefreshed image unit combine block side node.item node.right new → IsNodeOf image unit combine block (set items place x) new
    set_left side new before put refreshed =
        let inside : place < length node.left.items = omega (arith, before, own.shape.before_is) in
        let whole = ap (λ l. l ++ node.item ∷ node.right.items) put ∙ sym (set-append_left node.left.items (node.item ∷ node.right.items) place x inside) ∙ ap (λ l. set l place x) own.items_are in
        as_long side node.item node.right new (set items place x) (ap length put ∙ length-set node.left.items place x) refl refreshed whole

    pub set_here : (new : Node F S E X) → place ≡ node.before → IsRefreshed image unit combine block node.left x node.right new → IsNodeOf image unit combine block (set items place x) new
    set_here new here refreshed =
        let at = here ∙ own.shape.before_is in
        let whole = sym (ap (λ n. set (node.left.items ++ node.item ∷ node.right.items) n x) at ∙ set-append_seam node.left.items node.item node.right.items x) ∙ ap (λ l. set l place x) own.items_are in
        as_long node.left x node.right new (set items place x) refl refl refreshed whole

    pub set_right_fits : (side : Contents E) (i : ℕ) → side.items ≡ set node.right.items i x → length node.left.items + length side.items + 1 < 2 ^ 60
    set_right_fits side i put = omega (arith, ap length put, length-set node.right.items i x, sides_fit items node own)

    pub set_right : (side : Contents E) (new : Node F S E X) → node.before < place → side.items ≡ set node.right.items (place - node.before - 1) x
        → IsRefreshed image unit combine block node.left node.item side new → IsNodeOf image unit combine block (set items place x) new
    set_right side new behind put refreshed =
        let past : length node.left.items < place = omega (arith, behind, own.shape.before_is) in
        let around = rw (← own.shape.before_is) at (set-around node.left.items node.item node.right.items place x past) in
        let whole = ap (λ r. node.left.items ++ node.item ∷ r) put ∙ sym around ∙ ap (λ l. set l place x) own.items_are in
        as_long node.left node.item side new (set items place x) refl (ap length put ∙ length-set node.right.items (place - node.before - 1) x) refreshed whole

  module _ (x : E) (side : Contents E) (put : side.items ≡ node.right.items ++ x ∷ []) where
    one_more : length side.items ≡ length node.right.items + 1
    one_more = ap length put ∙ length-append node.right.items (x ∷ [])

    whole_pushed : node.left.items ++ node.item ∷ side.items ≡ items ++ x ∷ []
    whole_pushed = ap (λ r. node.left.items ++ node.item ∷ r) put ∙ sym (append_assoc node.left.items (node.item ∷ node.right.items) (x ∷ [])) ∙ ap (λ l. l ++ x ∷ []) own.items_are

    pub push_fits : HasRoom block (length node.left.items) (length node.right.items) → length node.left.items + length side.items + 1 < 2 ^ 60
    push_fits room = omega (arith, one_more, room.fits)

    pub push_size : node.size ≡ length node.left.items + length side.items
    push_size = omega (arith, one_more, node_size items node own)

    pub push_sum : {Fits : X → Type 0} → IsMonoidOver Fits unit combine → ((e : E) → Fits (image e)) → combine node.sum (image x) ≡ sum_of image unit combine (node.left.items ++ node.item ∷ side.items)
    push_sum monoid image_fits =
        let old : node.sum ≡ sum_of image unit combine items = own.shape.sum_is ∙ ap (sum_of image unit combine) own.items_are in
        ap (λ s. combine s (image x)) old ∙ sum_behind monoid image_fits items x ∙ ap (sum_of image unit combine) (sym whole_pushed)

    pub push_right : (new : Node F S E X) → HasRoom block (length node.left.items) (length node.right.items)
        → IsRefreshed image unit combine block node.left node.item side new → IsNodeOf image unit combine block (items ++ x ∷ []) new
    push_right new room refreshed =
        let balanced : IsBalanced (weight node.left.items) (weight side.items) = (omega (arith, one_more, room.balanced.0), omega (arith, one_more, room.balanced.1)) in
        changed image unit combine block node.left node.item side new (items ++ x ∷ []) own.shape.block_size refreshed whole_pushed balanced
        (λ few. let blocks = own.shape.filled (omega (arith, one_more, few)) in let short = room.filled (omega (arith, one_more, few)) in (blocks.0, (omega (arith, one_more, blocks.1.0), omega (arith, one_more, short))))
        (push_fits room)
