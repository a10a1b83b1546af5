-- A node one of whose sides has lost a key.
use Rattle.std.proofs.Common.{◌≡◌, ℕ, ◌+◌, ◌^◌, ◌<◌, ◌≤◌, ◌∷◌, ◌++◌, length, sym, ap, ◌∙◌, arith}
use Rattle.std.specs.Cmp.{IsTotalOrder}
use Rattle.std.specs.declared.cmp.Ordering.{Ordering}
use Rattle.std.specs.declared.cmp.Ordering.TheVariants.{Less, Greater}
use Rattle.map_model.specs.Contents.{Contents}
use Rattle.map_model.specs.Entries.{IsIncreasing, drop_key}
use Rattle.map_model.specs.Order.{IsExact}
use Rattle.map_model.proofs.Around.{drop_key-around_less, drop_key-around_greater}
use Rattle.map_model.proofs.Cuts.{drop_sizes}
use Rattle.map_model.proofs.Keys.{around}
use Rattle.map_model.proofs.Splits.{IsIncreasing-drop_key}
use Rattle.tree_shape.specs.declared.tree.Node.{Node}
use Rattle.tree_change.specs.Refreshed.{IsRefreshed}
use Rattle.tree_change.specs.Room.{CanSpare}
use Rattle.tree_change.proofs.Changed.{IsNodeOf, changed}
use Rattle.tree_change.proofs.Owned.{IsTopNode, sides_fit}
use Rattle.tree_change.proofs.Sides.{balance_turned, fill_turned, spared_balance, spared_fill}

module _ {M K V X A L : Type 0} {order : K → K → Ordering} (total : IsTotalOrder order) (exact : IsExact order) {base : K → V → X} {unit : X} {combine : X → X → X} {block : ℕ} (map : Contents K V) (node : Node M K V X A L) (own : IsTopNode order base unit combine block map node) (q : K) where
  del_increasing : IsIncreasing order (drop_key order map.entries q)
  del_increasing = rw (← own.entries_are) (IsIncreasing-drop_key order _ q own.shape.increasing)

  pub del_left_fits : (side : Contents K V) → side.entries ≡ drop_key order node.left.entries q → length side.entries + length node.right.entries + 1 < 2 ^ 60
  del_left_fits side del =
      let sizes = drop_sizes total exact node.left.entries q (around order _ _ _ _ own.shape.increasing).left in
      let less : length side.entries ≤ length node.left.entries = rw del sizes.0 in
      omega (arith, less, sides_fit map node own)

  pub del_right_fits : (side : Contents K V) → side.entries ≡ drop_key order node.right.entries q → length node.left.entries + length side.entries + 1 < 2 ^ 60
  del_right_fits side del =
      let sizes = drop_sizes total exact node.right.entries q (around order _ _ _ _ own.shape.increasing).right in
      let less : length side.entries ≤ length node.right.entries = rw del sizes.0 in
      omega (arith, less, sides_fit map node own)

  pub del_left : (side : Contents K V) (new : Node M K V X A L) → (order q node.key ≡ Less) × CanSpare block (length node.left.entries) (length node.right.entries) → side.entries ≡ drop_key order node.left.entries q
      → IsRefreshed base unit combine block side node.key node.val node.right new → IsNodeOf order base unit combine block (drop_key order map.entries q) new
  del_left side new way del refreshed =
      let sizes = drop_sizes total exact node.left.entries q (around order _ _ _ _ own.shape.increasing).left in
      let less : length side.entries ≤ length node.left.entries = rw del sizes.0 in
      let few : length node.left.entries ≤ length side.entries + 1 = rw del sizes.1 in
      let whole = ap (λ l. l ++ (node.key, node.val) ∷ node.right.entries) del ∙ sym (drop_key-around_less total node.left.entries node.key node.val node.right.entries q own.shape.increasing way.0) ∙ ap (λ m. drop_key order m q) own.entries_are in
      changed order base unit combine block side node.key node.val node.right new _ refreshed whole del_increasing
      (spared_balance block (length node.left.entries) (length side.entries) (length node.right.entries) less few own.shape.balanced way.1)
      (spared_fill block (length node.left.entries) (length side.entries) (length node.right.entries) less few own.shape.filled way.1)
      (del_left_fits side del)

  pub del_right : (side : Contents K V) (new : Node M K V X A L) → (order q node.key ≡ Greater) × CanSpare block (length node.right.entries) (length node.left.entries) → side.entries ≡ drop_key order node.right.entries q
      → IsRefreshed base unit combine block node.left node.key node.val side new → IsNodeOf order base unit combine block (drop_key order map.entries q) new
  del_right side new way del refreshed =
      let sizes = drop_sizes total exact node.right.entries q (around order _ _ _ _ own.shape.increasing).right in
      let less : length side.entries ≤ length node.right.entries = rw del sizes.0 in
      let few : length node.right.entries ≤ length side.entries + 1 = rw del sizes.1 in
      let whole = ap (λ r. node.left.entries ++ (node.key, node.val) ∷ r) del ∙ sym (drop_key-around_greater total node.left.entries node.key node.val node.right.entries q own.shape.increasing way.0) ∙ ap (λ m. drop_key order m q) own.entries_are in
      changed order base unit combine block node.left node.key node.val side new _ refreshed whole del_increasing
      (balance_turned _ _ (spared_balance block (length node.right.entries) (length side.entries) (length node.left.entries) less few (balance_turned _ _ own.shape.balanced) way.1))
      (fill_turned block _ _ (spared_fill block (length node.right.entries) (length side.entries) (length node.left.entries) less few (fill_turned block _ _ own.shape.filled) way.1))
      (del_right_fits side del)
