-- What a node over two sides has to keep.
use Rattle.std.proofs.Common.{◌≡◌, ℕ, ◌+◌, ◌-◌, ◌*◌, ◌/◌, ◌^◌, ◌<◌, ◌≤◌, max, List, ◌∷◌, ◌++◌, length, sym, ◌∙◌, arith, length-append}
use Rattle.std.proofs.Common.{append_assoc, take, drop, ap, Some, take-append-drop}
use Rattle.std.specs.List.{slice_get}
use Rattle.std.proofs.lemmas.List.{length-take-le, drop_more}
use Rattle.std.proofs.lemmas.Option.{slice_get_within, get_or_from_slice_get}
use Rattle.std.specs.declared.cmp.Ordering.{Ordering}
use Rattle.map_model.specs.Entries.{IsIncreasing}
use Rattle.map_model.specs.Fold.{fold_of}
use Rattle.map_model.specs.Contents.{Contents}
use Rattle.tree_shape.specs.Cuts.{IsCutAround}
use Rattle.map_model.specs.Balance.{FillsNode, IsBlockSize, IsBalanced, weight, HeightLaw}
use Rattle.tree_shape.specs.Shape.{IsNode}
use Rattle.map_model.proofs.Heights.{node_is_long, node_law}

pub length-around : {E : Type 0} (l : List E) (e : E) (r : List E) → length (l ++ e ∷ r) ≡ length l + length r + 1
length-around l e r = omega (arith, length-append l (e ∷ r))

-- of few entries each side has few
pub around_few : {E : Type 0} (l : List E) (e : E) (r : List E) (n : ℕ) → length (l ++ e ∷ r) ≤ n → length l + length r + 1 ≤ n
around_few l e r n few = omega (arith, few, length-around l e r)

-- the sides of a node are shorter than its whole, for recursions down to them
module _ {E : Type 0} (whole l : List E) (e : E) (r : List E) (is : whole ≡ l ++ e ∷ r) where
  pub left_shorter : length l < length whole
  left_shorter = omega (arith, ap length is, length-around l e r)

  pub right_shorter : length r < length whole
  right_shorter = omega (arith, ap length is, length-around l e r)

module _ {K V X : Type 0} (order : K → K → Ordering) (base : K → V → X) (unit : X) (combine : X → X → X) (block : ℕ) where
  pub is_node : (left : Contents K V) (key : K) (val : V) (right : Contents K V) (fold : X) (size height : ℕ)
      → IsBlockSize block → IsIncreasing order (left.entries ++ (key, val) ∷ right.entries) → fold ≡ fold_of base unit combine (left.entries ++ (key, val) ∷ right.entries)
      → size ≡ length left.entries + length right.entries + 1 → size < 2 ^ 60 → height ≡ max left.height right.height + 1
      → IsBalanced (weight left.entries) (weight right.entries) → FillsNode block (length left.entries) (length right.entries)
      → HeightLaw block left.height (length left.entries) → HeightLaw block right.height (length right.entries)
      → IsNode order base unit combine block left key val right fold size height
  is_node left key val right fold size height block_size increasing fold_is size_is size_fits height_is balanced filled left_law right_law =
      record {
        increasing = increasing;
        fold_is = fold_is;
        size_is = size_is ∙ sym (length-around left.entries (key, val) right.entries);
        size_fits = size_fits;
        height_is = height_is;
        balanced = balanced;
        long = let long = node_is_long block (length left.entries) (length right.entries) filled in omega (arith, long);
        filled = filled;
        law = rw (height_is, size_is) (node_law block (length left.entries) (length right.entries) left.height right.height block_size.0 left_law right_law balanced filled);
      }

-- ---- the sides of a long list that is cut in its middle

pub halves_balance : (n left right : ℕ) → left ≡ (n - 1) / 2 → left + right + 1 ≡ n → IsBalanced (left + 1) (right + 1)
halves_balance n left right half whole = (omega (arith, half, whole), omega (arith, half, whole))

pub halves_fill : (block n left right : ℕ) → left ≡ (n - 1) / 2 → left + right + 1 ≡ n → 2 * block < n → FillsNode block left right
halves_fill block n left right half whole long = λ few. ((omega (arith, half, whole, long), omega (arith, half, whole, few)), (omega (arith, half, whole, long), omega (arith, half, whole, few)))

-- ---- a list cut at an entry

pub drop_at : {E : Type 0} (es : List E) (m : ℕ) (e : E) → slice_get es m ≡ Some e → drop m es ≡ e ∷ drop (m + 1) es
drop_at es m e is = drop_more es m e (slice_get_within es m e is) ∙ ap (λ x. x ∷ drop (m + 1) es) (get_or_from_slice_get es m e e is)

pub cut_around : {E : Type 0} (es : List E) (m : ℕ) (front back : List E) (e : E) → m < length es → front ≡ take m es → back ≡ drop (m + 1) es → slice_get es m ≡ Some e → IsCutAround es m front e back
cut_around es m front back e within front_is back_is is =
    let whole : es ≡ front ++ e ∷ back = rw (front_is, back_is) (sym (take-append-drop m es) ∙ ap (λ x. take m es ++ x) (drop_at es m e is)) in
    let front_length : length front ≡ m = rw front_is (length-take-le m es (omega (arith, within))) in
    record { whole = whole; front_length = front_length; back_length = omega (arith, ap length whole, length-around front e back) }

-- ---- two entries among three lists

pub regroup : {E : Type 0} (x : List E) (e : E) (y : List E) (f : E) (z : List E) → x ++ e ∷ (y ++ f ∷ z) ≡ (x ++ e ∷ y) ++ f ∷ z
regroup x e y f z = sym (append_assoc x (e ∷ y) (f ∷ z))
