-- A list cut at an entry, or at the place of a key.
use Rattle.std.proofs.Common.{◌≡◌, ℕ, ◌+◌, ◌<◌, ◌≤◌, zero, suc, List, [], ◌∷◌, ◌++◌, length, take, drop, take-append-drop, Option, Some, None, Bool, true, false, cond, refl, sym, ap, ◌∙◌, subst, arith, append_assoc, length-append}
use Rattle.std.specs.List.{slice_get}
use Rattle.std.specs.Option.{option_map, is_some}
use Rattle.std.specs.Cmp.{IsTotalOrder}
use Rattle.std.specs.declared.cmp.Ordering.{Ordering}
use Rattle.std.specs.declared.cmp.Ordering.TheVariants.{Less}
use Rattle.std.proofs.lemmas.Bool.{false≢true}
use Rattle.map_model.specs.Entries.{AllKeys, IsIncreasing, lookup, below, above, set, drop_key}
use Rattle.map_model.specs.Balance.{weight}
use Rattle.map_model.specs.Order.{IsExact}
use Rattle.map_model.proofs.Keys.{AllKeys-append, AllKeys-front, AllKeys-back}
use Rattle.map_model.proofs.Lengths.{length-filter_le, length-set, length-drop_key}
use Rattle.map_model.proofs.Ranges.{slice_get-around_at}
use Rattle.map_model.proofs.Splits.{split_found, split_absent}

pub length-around : {E : Type 0} (l : List E) (e : E) (r : List E) → length (l ++ e ∷ r) ≡ length l + length r + 1
length-around l e r = omega (arith, length-append l (e ∷ r))

-- two entries among three lists
pub regroup : {E : Type 0} (x : List E) (e : E) (y : List E) (f : E) (z : List E) → x ++ e ∷ (y ++ f ∷ z) ≡ (x ++ e ∷ y) ++ f ∷ z
regroup x e y f z = sym (append_assoc x (e ∷ y) (f ∷ z))

pub has_value : {V : Type 0} (o : Option V) → is_some o ≡ true → (v : V) × (o ≡ Some v)
has_value (Some v) h = (v, refl)
has_value None h = absurd (false≢true h)

pub none_of_absent : {V : Type 0} (o : Option V) → is_some o ≡ false → o ≡ None
none_of_absent None h = refl
none_of_absent (Some v) h = absurd (false≢true (sym h))

-- an entry at the same place of one list
pub append_cancel : {E : Type 0} (l : List E) (e : E) (r l' : List E) (e' : E) (r' : List E) → l ++ e ∷ r ≡ l' ++ e' ∷ r' → length l ≡ length l' → (l ≡ l') × (e ≡ e') × (r ≡ r')
append_cancel [] e r [] e' r' is same = (refl, cc, cc)
append_cancel [] e r (x ∷ l') e' r' is same = absurd (omega arith)
append_cancel (x ∷ l) e r [] e' r' is same = absurd (omega arith)
append_cancel (x ∷ l) e r (y ∷ l') e' r' is same =
    let tails : l ++ e ∷ r ≡ l' ++ e' ∷ r' = cc in
    let heads : x ≡ y = cc in
    let rest = append_cancel l e r l' e' r' tails (omega arith) in
    (ap (λ z. x ∷ z) rest.0 ∙ ap (λ z. z ∷ l') heads, rest.1, rest.2)

pub take_front : {E : Type 0} (l r : List E) → take (length l) (l ++ r) ≡ l
take_front [] r = refl
take_front (x ∷ l) r = ap (λ y. x ∷ y) (take_front l r)

pub drop_front : {E : Type 0} (l r : List E) → drop (length l) (l ++ r) ≡ r
drop_front [] r = refl
drop_front (x ∷ l) r = drop_front l r

pub drop_past : {E : Type 0} (l : List E) (e : E) (r : List E) → drop (length l + 1) (l ++ e ∷ r) ≡ r
drop_past [] e r = refl
drop_past (x ∷ l) e r =
    let more : suc (length l) + 1 ≡ suc (length l + 1) = omega arith in
    rw more (drop_past l e r)

-- a list without the entry at a place
AllKeys-without : {K V : Type 0} (P : K → Type 0) (i : ℕ) (m : List (K × V)) → AllKeys P m → AllKeys P (take i m ++ drop (i + 1) m)
AllKeys-without P i m a =
    AllKeys-append P (take i m) (drop (i + 1) m)
    (AllKeys-front P (take i m) (drop i m) (subst (AllKeys P) (sym (take-append-drop i m)) a))
    (AllKeys-back P (take (i + 1) m) (drop (i + 1) m) (subst (AllKeys P) (sym (take-append-drop (i + 1) m)) a))

pub IsIncreasing-without : {K V : Type 0} (order : K → K → Ordering) (i : ℕ) (m : List (K × V)) → IsIncreasing order m → IsIncreasing order (take i m ++ drop (i + 1) m)
IsIncreasing-without order zero [] s = tt
IsIncreasing-without order (suc i) [] s =
    let more : suc i + 1 ≡ suc (i + 1) = omega arith in
    rw more tt
IsIncreasing-without order zero (e ∷ m) s = s.1
IsIncreasing-without order (suc i) (e ∷ m) s =
    let more : suc i + 1 ≡ suc (i + 1) = omega arith in
    rw more (AllKeys-without (λ k. order e.0 k ≡ Less) i m s.0, IsIncreasing-without order i m s.1)

-- nothing stands before place 0
pub first_cut : {E : Type 0} (es f : List E) (e : E) (r : List E) → es ≡ f ++ e ∷ r → length f ≡ 0 → es ≡ e ∷ r
first_cut es [] e r whole none = whole
first_cut es (x ∷ f) e r whole none = absurd (omega arith)

pub one_more : (b : Bool) (n x : ℕ) → x ≡ cond b n (n + 1) → (n ≤ x) × (x ≤ n + 1)
one_more true n x is = (omega (arith, is), omega (arith, is))
one_more false n x is = (omega (arith, is), omega (arith, is))

pub one_less : (b : Bool) (n x : ℕ) → x ≡ cond b (n + 1) n → (n ≤ x) × (x ≤ n + 1)
one_less true n x is = (omega (arith, is), omega (arith, is))
one_less false n x is = (omega (arith, is), omega (arith, is))

module _ {K V : Type 0} {order : K → K → Ordering} (total : IsTotalOrder order) (exact : IsExact order) (m : List (K × V)) (q : K) (s : IsIncreasing order m) where
  -- a list cut around the entry at the place of q, which it has
  pub cut_found : (front : List (K × V)) (e : K × V) (back : List (K × V)) → is_some (lookup order m q) ≡ true → m ≡ front ++ e ∷ back → length front ≡ length (below order m q) → (front ≡ below order m q) × (back ≡ above order m q) × (lookup order m q ≡ Some e.1)
  cut_found front e back present whole same =
      let found = has_value (lookup order m q) present in
      let parts = append_cancel front e back (below order m q) (q, found.0) (above order m q) (sym whole ∙ split_found total exact m q found.0 s found.1) same in
      (parts.0, parts.2, found.1 ∙ ap (λ (x : K × V). Some x.1) (sym parts.1))

  -- what stands before and after q, which the list has
  pub parts_found : is_some (lookup order m q) ≡ true → (take (length (below order m q)) m ≡ below order m q) × (drop (length (below order m q) + 1) m ≡ above order m q)
  parts_found present =
      let found = has_value (lookup order m q) present in
      let whole = split_found total exact m q found.0 s found.1 in
      (ap (take (length (below order m q))) whole ∙ take_front (below order m q) ((q, found.0) ∷ above order m q), ap (drop (length (below order m q) + 1)) whole ∙ drop_past (below order m q) (q, found.0) (above order m q))

  -- a list cut at the place of q, which it hasn't
  pub cut_missed : lookup order m q ≡ None → (take (length (below order m q)) m ≡ below order m q) × (drop (length (below order m q)) m ≡ above order m q)
  cut_missed absent =
      let whole = split_absent total exact m q s absent in
      (ap (take (length (below order m q))) whole ∙ take_front (below order m q) (above order m q), ap (drop (length (below order m q))) whole ∙ drop_front (below order m q) (above order m q))

  pub place_found : is_some (lookup order m q) ≡ true → length (below order m q) < length m
  place_found present =
      let found = has_value (lookup order m q) present in
      omega (arith, ap length (split_found total exact m q found.0 s found.1), length-around (below order m q) (q, found.0) (above order m q))

  pub lookup_at_place : is_some (lookup order m q) ≡ true → lookup order m q ≡ option_map (λ (e : K × V). e.1) (slice_get m (length (below order m q)))
  lookup_at_place present =
      let found = has_value (lookup order m q) present in
      found.1 ∙ sym (ap (option_map (λ (e : K × V). e.1)) (ap (λ x. slice_get x (length (below order m q))) (split_found total exact m q found.0 s found.1) ∙ slice_get-around_at (q, found.0) (above order m q) (below order m q)))

  pub set_sizes : (v : V) → (length m ≤ length (set order m q v)) × (length (set order m q v) ≤ length m + 1)
  set_sizes v = one_more (is_some (lookup order m q)) (length m) (length (set order m q v)) (length-set total exact m q v s)

  pub drop_sizes : (length (drop_key order m q) ≤ length m) × (length m ≤ length (drop_key order m q) + 1)
  drop_sizes = one_less (is_some (lookup order m q)) (length (drop_key order m q)) (length m) (length-drop_key total exact m q s)

pub place_any : {K V : Type 0} (order : K → K → Ordering) (m : List (K × V)) (q : K) → length (below order m q) ≤ length m
place_any order m q = length-filter_le _ m

pub weight-around : {E : Type 0} (es l : List E) (e : E) (r : List E) → es ≡ l ++ e ∷ r → weight es ≡ weight l + weight r
weight-around es l e r is = omega (arith, ap length is, length-around l e r)
