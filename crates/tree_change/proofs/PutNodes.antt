-- A node one of whose sides, or whose entry, has a key set to a value.
use Rattle.std.proofs.Common.{◌≡◌, ℕ, ◌+◌, ◌^◌, ◌<◌, ◌≤◌, ◌∷◌, ◌++◌, length, sym, ap, ◌∙◌, subst, arith}
use Rattle.std.specs.Cmp.{IsTotalOrder}
use Rattle.std.specs.declared.cmp.Ordering.{Ordering}
use Rattle.std.specs.declared.cmp.Ordering.TheVariants.{Less, Equal, Greater}
use Rattle.map_model.specs.Contents.{Contents}
use Rattle.map_model.specs.Entries.{IsIncreasing, set}
use Rattle.map_model.specs.Fold.{IsMonoidOver, fold_of}
use Rattle.map_model.specs.Order.{IsExact}
use Rattle.map_model.proofs.Around.{set-around_less, set-around_equal, set-around_greater}
use Rattle.map_model.proofs.Cuts.{length-around, set_sizes}
use Rattle.map_model.proofs.Keys.{around}
use Rattle.map_model.proofs.Splits.{IsIncreasing-set}
use Rattle.aug_monoid.specs.Commuting.{IsCommutativeOver}
use Rattle.tree_shape.specs.declared.tree.Node.{Node}
use Rattle.tree_change.specs.Refreshed.{IsRefreshed}
use Rattle.tree_change.specs.Room.{HasRoom}
use Rattle.tree_change.proofs.Changed.{IsNodeOf, changed}
use Rattle.tree_change.proofs.Owned.{IsTopNode, sides_fit}
use Rattle.tree_change.proofs.Sides.{balance_turned, fill_turned, grown_balance, grown_fill}
use Rattle.tree_change.proofs.Taking.{fold_set, new_if_longer}

module _ {M K V X A L : Type 0} {order : K → K → Ordering} (total : IsTotalOrder order) (exact : IsExact order) {base : K → V → X} {unit : X} {combine : X → X → X} {block : ℕ} (map : Contents K V) (node : Node M K V X A L) (own : IsTopNode order base unit combine block map node) (q : K) (v : V) where
  put_increasing : IsIncreasing order (set order map.entries q v)
  put_increasing = rw (← own.entries_are) (IsIncreasing-set total _ q v own.shape.increasing)

  -- the entries of the node with a put into its left side, and into its right one
  left_whole : (side : Contents K V) → side.entries ≡ set order node.left.entries q v → order q node.key ≡ Less → side.entries ++ (node.key, node.val) ∷ node.right.entries ≡ set order map.entries q v
  left_whole side put less =
      ap (λ l. l ++ (node.key, node.val) ∷ node.right.entries) put ∙ sym (set-around_less total node.left.entries node.key node.val node.right.entries q own.shape.increasing less v) ∙ ap (λ m. set order m q v) own.entries_are

  right_whole : (side : Contents K V) → side.entries ≡ set order node.right.entries q v → order q node.key ≡ Greater → node.left.entries ++ (node.key, node.val) ∷ side.entries ≡ set order map.entries q v
  right_whole side put greater =
      ap (λ r. node.left.entries ++ (node.key, node.val) ∷ r) put ∙ sym (set-around_greater total node.left.entries node.key node.val node.right.entries q own.shape.increasing greater v) ∙ ap (λ m. set order m q v) own.entries_are

  pub put_left_size : (side : Contents K V) → side.entries ≡ set order node.left.entries q v → length node.left.entries < length side.entries → node.size ≡ length side.entries + length node.right.entries
  put_left_size side put more =
      let sizes = set_sizes total exact node.left.entries q (around order _ _ _ _ own.shape.increasing).left v in
      let few : length side.entries ≤ length node.left.entries + 1 = rw put sizes.1 in
      omega (arith, few, more, own.shape.size_is, length-around node.left.entries (node.key, node.val) node.right.entries)

  pub put_right_size : (side : Contents K V) → side.entries ≡ set order node.right.entries q v → length node.right.entries < length side.entries → node.size ≡ length node.left.entries + length side.entries
  put_right_size side put more =
      let sizes = set_sizes total exact node.right.entries q (around order _ _ _ _ own.shape.increasing).right v in
      let few : length side.entries ≤ length node.right.entries + 1 = rw put sizes.1 in
      omega (arith, few, more, own.shape.size_is, length-around node.left.entries (node.key, node.val) node.right.entries)

  -- a put that makes a side longer makes the map longer
  pub put_left_longer : (side : Contents K V) → side.entries ≡ set order node.left.entries q v → order q node.key ≡ Less → length node.left.entries < length side.entries → length map.entries < length (set order map.entries q v)
  put_left_longer side put less more =
      omega (arith, more, ap length own.entries_are, ap length (left_whole side put less), length-around node.left.entries (node.key, node.val) node.right.entries, length-around side.entries (node.key, node.val) node.right.entries)

  pub put_right_longer : (side : Contents K V) → side.entries ≡ set order node.right.entries q v → order q node.key ≡ Greater → length node.right.entries < length side.entries → length map.entries < length (set order map.entries q v)
  put_right_longer side put greater more =
      omega (arith, more, ap length own.entries_are, ap length (right_whole side put greater), length-around node.left.entries (node.key, node.val) node.right.entries, length-around node.left.entries (node.key, node.val) side.entries)

  module _ {Fits : X → Type 0} (monoid : IsMonoidOver Fits unit combine) (base_fits : (k : K) (w : V) → Fits (base k w)) (alike : IsCommutativeOver Fits combine) where
    -- the fold of the map with a new key
    fold_grown : length map.entries < length (set order map.entries q v) → fold_of base unit combine (set order map.entries q v) ≡ combine node.fold (base q v)
    fold_grown longer =
        let rises : IsIncreasing order map.entries = subst (IsIncreasing order) own.entries_are own.shape.increasing in
        let new = new_if_longer total exact map.entries q v rises longer in
        let old : node.fold ≡ fold_of base unit combine map.entries = own.shape.fold_is ∙ ap (fold_of base unit combine) own.entries_are in
        fold_set monoid base_fits alike total exact map.entries q v rises new ∙ ap (λ x. combine x (base q v)) (sym old)

    pub put_left_fold : (side : Contents K V) → side.entries ≡ set order node.left.entries q v → order q node.key ≡ Less → length node.left.entries < length side.entries
        → fold_of base unit combine (side.entries ++ (node.key, node.val) ∷ node.right.entries) ≡ combine node.fold (base q v)
    put_left_fold side put less more =
        ap (fold_of base unit combine) (left_whole side put less) ∙ fold_grown (put_left_longer side put less more)

    pub put_right_fold : (side : Contents K V) → side.entries ≡ set order node.right.entries q v → order q node.key ≡ Greater → length node.right.entries < length side.entries
        → fold_of base unit combine (node.left.entries ++ (node.key, node.val) ∷ side.entries) ≡ combine node.fold (base q v)
    put_right_fold side put greater more =
        ap (fold_of base unit combine) (right_whole side put greater) ∙ fold_grown (put_right_longer side put greater more)

  pub put_left_fits : (side : Contents K V) → side.entries ≡ set order node.left.entries q v → HasRoom block (length node.left.entries) (length node.right.entries) → length side.entries + length node.right.entries + 1 < 2 ^ 60
  put_left_fits side put room =
      let sizes = set_sizes total exact node.left.entries q (around order _ _ _ _ own.shape.increasing).left v in
      let few : length side.entries ≤ length node.left.entries + 1 = rw put sizes.1 in
      omega (arith, few, room.fits)

  pub put_right_fits : (side : Contents K V) → side.entries ≡ set order node.right.entries q v → HasRoom block (length node.right.entries) (length node.left.entries) → length node.left.entries + length side.entries + 1 < 2 ^ 60
  put_right_fits side put room =
      let sizes = set_sizes total exact node.right.entries q (around order _ _ _ _ own.shape.increasing).right v in
      let few : length side.entries ≤ length node.right.entries + 1 = rw put sizes.1 in
      omega (arith, few, room.fits)

  pub put_left : (side : Contents K V) (new : Node M K V X A L) → (order q node.key ≡ Less) × HasRoom block (length node.left.entries) (length node.right.entries) → side.entries ≡ set order node.left.entries q v
      → IsRefreshed base unit combine block side node.key node.val node.right new → IsNodeOf order base unit combine block (set order map.entries q v) new
  put_left side new way put refreshed =
      let sizes = set_sizes total exact node.left.entries q (around order _ _ _ _ own.shape.increasing).left v in
      let more : length node.left.entries ≤ length side.entries = rw put sizes.0 in
      let few : length side.entries ≤ length node.left.entries + 1 = rw put sizes.1 in
      let whole = left_whole side put way.0 in
      changed order base unit combine block side node.key node.val node.right new _ refreshed whole put_increasing
      (grown_balance block (length node.left.entries) (length side.entries) (length node.right.entries) more few own.shape.balanced way.1)
      (grown_fill block (length node.left.entries) (length side.entries) (length node.right.entries) more few own.shape.filled way.1)
      (put_left_fits side put way.1)

  pub put_right : (side : Contents K V) (new : Node M K V X A L) → (order q node.key ≡ Greater) × HasRoom block (length node.right.entries) (length node.left.entries) → side.entries ≡ set order node.right.entries q v
      → IsRefreshed base unit combine block node.left node.key node.val side new → IsNodeOf order base unit combine block (set order map.entries q v) new
  put_right side new way put refreshed =
      let sizes = set_sizes total exact node.right.entries q (around order _ _ _ _ own.shape.increasing).right v in
      let more : length node.right.entries ≤ length side.entries = rw put sizes.0 in
      let few : length side.entries ≤ length node.right.entries + 1 = rw put sizes.1 in
      let whole = right_whole side put way.0 in
      changed order base unit combine block node.left node.key node.val side new _ refreshed whole put_increasing
      (balance_turned _ _ (grown_balance block (length node.right.entries) (length side.entries) (length node.left.entries) more few (balance_turned _ _ own.shape.balanced) way.1))
      (fill_turned block _ _ (grown_fill block (length node.right.entries) (length side.entries) (length node.left.entries) more few (fill_turned block _ _ own.shape.filled) way.1))
      (put_right_fits side put way.1)

  -- the entry of the node itself
  pub put_here : (new : Node M K V X A L) → order q node.key ≡ Equal → IsRefreshed base unit combine block node.left node.key v node.right new → IsNodeOf order base unit combine block (set order map.entries q v) new
  put_here new same refreshed =
      let whole = ap (λ k. node.left.entries ++ (k, v) ∷ node.right.entries) (sym (exact q node.key same)) ∙ sym (set-around_equal total node.left.entries node.key node.val node.right.entries q own.shape.increasing same v) ∙ ap (λ m. set order m q v) own.entries_are in
      changed order base unit combine block node.left node.key v node.right new _ refreshed whole put_increasing own.shape.balanced own.shape.filled (sides_fit map node own)
