-- A node made anew over changed sides.
use Rattle.std.proofs.Common.{◌≡◌, ℕ, zero, suc, ◌+◌, ◌^◌, ◌<◌, ◌≤◌, List, [], ◌∷◌, ◌++◌, length, take, drop, is_some, true, refl, sym, ap, ◌∙◌, subst, arith}
use Rattle.std.specs.Prelude.{Result, Ok, Err, IfOk, OnErr}
use Rattle.std.specs.Cmp.{IsTotalOrder}
use Rattle.std.specs.declared.cmp.Ordering.{Ordering}
use Rattle.map_model.specs.Balance.{FillsNode, IsBalanced, weight}
use Rattle.map_model.specs.Contents.{Contents}
use Rattle.map_model.specs.Entries.{IsIncreasing, below, drop_key, lookup}
use Rattle.map_model.specs.Order.{IsExact}
use Rattle.map_model.proofs.Cuts.{length-around, parts_found}
use Rattle.map_model.proofs.Heights.{node_is_long}
use Rattle.map_model.proofs.Splits.{drop_key-split}
use Rattle.tree_shape.specs.Shape.{IsNode}
use Rattle.tree_shape.specs.declared.tree.Node.{Node}
use Rattle.tree_change.specs.Refreshed.{IsRefreshed}

-- what holds after success and after a refusal
pub by_outcome : {A B E F G H P : Type 0} (r : Result A B) → IfOk r (λ _. E) → IfOk r (λ _. F) → OnErr r G → OnErr r H → (E → F → P) → (G → H → P) → P
by_outcome (Ok _) e f g h done refused = done e f
by_outcome (Err _) e f g h done refused = refused g h

-- what is longer stays so under other names
pub longer_seen : {E : Type 0} {old new before after : List E} → old ≡ before → after ≡ new → length old < length new → length before < length after
longer_seen before_is after_is more = omega (arith, ap length before_is, ap length after_is, more)

-- what is left of one entry without it
pub nothing_left : {E : Type 0} (es : List E) (at : ℕ) → at < length es → length es ≤ 1 → take at es ++ drop (at + 1) es ≡ []
nothing_left [] at h few = absurd (omega (arith, h))
nothing_left (e ∷ []) zero h few = refl
nothing_left (e ∷ []) (suc at) h few = absurd (omega (arith, h))
nothing_left (e ∷ f ∷ es) at h few = absurd (omega (arith, few))

module _ {K V : Type 0} {order : K → K → Ordering} (total : IsTotalOrder order) (exact : IsExact order) where
  -- without the entry at its place a list is without the key
  pub found_dropped : (m : List (K × V)) (q : K) (at : ℕ) → IsIncreasing order m → is_some (lookup order m q) ≡ true → at ≡ length (below order m q) → take at m ++ drop (at + 1) m ≡ drop_key order m q
  found_dropped m q at rises hit at_is =
      let parts = parts_found total exact m q rises hit in
      rw (at_is, parts.0, parts.1) (sym (drop_key-split total exact m q rises))

module _ {M K V X A L : Type 0} (order : K → K → Ordering) (base : K → V → X) (unit : X) (combine : X → X → X) (block : ℕ) where
  -- a lawful node of these entries
  pub record IsNodeOf (entries : List (K × V)) (node : Node M K V X A L) : Type 0 where
    pub shape : IsNode order base unit combine block node.left node.key node.val node.right node.fold node.size node.height
    pub entries_are : node.left.entries ++ (node.key, node.val) ∷ node.right.entries ≡ entries

  pub changed : (left : Contents K V) (key : K) (val : V) (right : Contents K V) (node : Node M K V X A L) (entries : List (K × V))
      → IsRefreshed base unit combine block left key val right node
      → left.entries ++ (key, val) ∷ right.entries ≡ entries → IsIncreasing order entries
      → IsBalanced (weight left.entries) (weight right.entries) → FillsNode block (length left.entries) (length right.entries) → length left.entries + length right.entries + 1 < 2 ^ 60
      → IsNodeOf entries node
  changed left key val right node entries new is rises balanced filled fits =
      record {
        shape = rw (new.left_is, new.key_is, new.val_is, new.right_is) (record {
          increasing = subst (IsIncreasing order) (sym is) rises;
          fold_is = new.fold_is;
          size_is = new.size_is ∙ sym (length-around left.entries (key, val) right.entries);
          size_fits = omega (arith, new.size_is, fits);
          height_is = new.height_is;
          balanced = balanced;
          long = let long = node_is_long block (length left.entries) (length right.entries) filled in omega (arith, new.size_is, long);
          filled = filled;
          law = new.law balanced filled;
        });
        entries_are = rw (new.left_is, new.key_is, new.val_is, new.right_is) is;
      }
