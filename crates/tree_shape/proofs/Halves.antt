-- The sides of a list that is cut at an entry.
use Rattle.std.proofs.Common.{◌≡◌, ℕ, ◌+◌, ◌-◌, ◌*◌, ◌/◌, ◌<◌, ◌≤◌, List, [], ◌∷◌, ◌++◌, length, sym, ap, ◌∙◌, subst, arith, append_assoc, length-append}
use Rattle.std.specs.Prelude.{Result, Ok, Err, IfOk}
use Rattle.std.specs.declared.cmp.Ordering.{Ordering}
use Rattle.map_model.specs.Balance.{FillsNode, IsBalanced, weight}
use Rattle.map_model.specs.Entries.{IsIncreasing}
use Rattle.map_model.proofs.Keys.{IsIncreasing-front, around}
use Rattle.tree_shape.specs.Cuts.{IsCutAround}
use Rattle.tree_shape.proofs.Nodes.{length-around, halves_balance, halves_fill}

module _ {E : Type 0} {es : List E} {m : ℕ} {front : List E} {e : E} {back : List E} (cut : IsCutAround es m front e back) where
  pub sides_counted : length front + length back + 1 ≡ length es
  sides_counted = omega (arith, cut.front_length, cut.back_length)

  pub front_shorter : length front < length es
  front_shorter = omega (arith, cut.front_length, cut.back_length)

  pub back_shorter : length back < length es
  back_shorter = omega (arith, cut.back_length)

  pub front_under : (n : ℕ) → length es < n → length front < n
  front_under n fits = omega (arith, fits, front_shorter)

  pub back_under : (n : ℕ) → length es < n → length back < n
  back_under n fits = omega (arith, fits, back_shorter)

module _ {K V : Type 0} (order : K → K → Ordering) {es front back : List (K × V)} {m : ℕ} {e : K × V} (cut : IsCutAround es m front e back) (increasing : IsIncreasing order es) where
  pub whole_increasing : IsIncreasing order (front ++ e ∷ back)
  whole_increasing = subst (IsIncreasing order) cut.whole increasing

  pub front_increasing : IsIncreasing order front
  front_increasing = IsIncreasing-front order front (e ∷ back) (subst (IsIncreasing order) cut.whole increasing)

  pub back_increasing : IsIncreasing order back
  back_increasing = (around order front e.0 e.1 back (subst (IsIncreasing order) cut.whole increasing)).right

module _ {E : Type 0} {es front back : List E} {e : E} (cut : IsCutAround es ((length es - 1) / 2) front e back) where
  pub middle_balanced : IsBalanced (weight front) (weight back)
  middle_balanced = halves_balance (length es) (length front) (length back) cut.front_length (sides_counted cut)

  pub middle_fills : (block : ℕ) → 2 * block < length es → FillsNode block (length front) (length back)
  middle_fills block long = halves_fill block (length es) (length front) (length back) cut.front_length (sides_counted cut) long

  -- the steps of the two sides, and of the node over them
  pub middle_cost : (start middle end new : ℕ) → middle ≤ start + 2 * length front → end ≤ middle + 2 * length back → new ≤ end + 2 → new ≤ start + 2 * length es
  middle_cost start middle end new near far node = omega (arith, near, far, node, sides_counted cut)

  pub sides_cost : (start middle end : ℕ) → middle ≤ start + 2 * length front → end ≤ middle + 2 * length back → end ≤ start + 2 * length es
  sides_cost start middle end near far = omega (arith, near, far, sides_counted cut)

-- ---- a list taken off its end by halves: `right`, then an entry, then what is left of `rest`

pub later_fewer : (block count : ℕ) → 2 * block < count → count - 1 - (count - 1) / 2 < count
later_fewer block count long = omega (arith, long)

pub later_inside : (count all : ℕ) → count ≤ all → count - 1 - (count - 1) / 2 ≤ all
later_inside count all inside = omega (arith, inside)

pub earlier_fewer : (block count : ℕ) → 2 * block < count → (count - 1) / 2 < count
earlier_fewer block count long = omega (arith, long)

module _ {E : Type 0} (from before rest right : List E) (e : E) (taken : from ≡ before ++ right) (popped : before ≡ rest ++ e ∷ []) where
  pub popped_whole : from ≡ rest ++ e ∷ right
  popped_whole = taken ∙ ap (λ x. x ++ right) popped ∙ append_assoc rest (e ∷ []) right

  popped_count : length from ≡ length rest + length right + 1
  popped_count = ap length popped_whole ∙ length-around rest e right

  pub rest_under : (n : ℕ) → length from < n → length rest < n
  rest_under n fits = omega (arith, popped_count, fits)

  pub rest_enough : (count : ℕ) → length right ≡ count - 1 - (count - 1) / 2 → count ≤ length from → (count - 1) / 2 ≤ length rest
  rest_enough count counted inside = omega (arith, popped_count, counted, inside)

module _ {K V : Type 0} (order : K → K → Ordering) (from before rest right : List (K × V)) (e : K × V) (taken : from ≡ before ++ right) (popped : before ≡ rest ++ e ∷ []) where
  pub rest_increasing : IsIncreasing order from → IsIncreasing order rest
  rest_increasing rises = IsIncreasing-front order rest (e ∷ right) (subst (IsIncreasing order) (popped_whole from before rest right e taken popped) rises)

-- as many entries as there are, taken off the end, are all
pub all_taken : {E : Type 0} (all rest right : List E) → all ≡ rest ++ right → length right ≡ length all → right ≡ all
all_taken all [] right whole counted = sym whole
all_taken all (e ∷ rest) right whole counted = absurd (omega (arith, ap length whole, length-append rest right, counted))

pub taken_whole : {T F E : Type 0} (r : Result T F) (items : T → List E) (all rest : List E) (count : ℕ) → IfOk r (λ x. all ≡ rest ++ items x) → IfOk r (λ x. length (items x) ≡ count) → count ≡ length all → IfOk r (λ x. items x ≡ all)
taken_whole (Ok x) items all rest count whole counted is = all_taken all rest (items x) whole (counted ∙ is)
taken_whole (Err y) items all rest count whole counted is = tt
