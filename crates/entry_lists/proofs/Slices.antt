-- The place of a key in a slice.
use Rattle.std.proofs.Common.{◌≡◌, ◌+◌, ◌<◌, ◌≤◌, ℕ, Bool, zero, suc, true, false, cond, List, [], ◌∷◌, length, take, drop, get_or, Option, None, Some, is_some, refl, sym, ap, subst, ◌∙◌, arith, add-zero}
use Rattle.std.proofs.lemmas.Bool.{false≢true}
use borrow.Author.Count.{below_more}
use Rattle.std.proofs.lemmas.List.{get_or_default, length-take-le}
use Rattle.std.specs.declared.cmp.Ordering.{Ordering}
use Rattle.std.specs.declared.cmp.Ordering.TheVariants.{Less, Equal, Greater}
use Rattle.std.specs.Ordering.{is_eq, is_lt}
use Rattle.std.specs.List.{slice_get}
use Rattle.std.specs.Option.{option_and_then}
use Rattle.std.specs.Cmp.{IsTotalOrder}
use Rattle.std.specs.List.Sorted.{IsPartitionedBy, IsPartitionPoint}
use Rattle.map_model.specs.Entries.{AllKeys, IsIncreasing, lookup, below, above}
use Rattle.map_model.specs.Parts.{rank}
use Rattle.map_model.proofs.Places.{filter-take, below-take, lookup-place, above-drop}

key_at : {K V : Type 0} (P : K → Type 0) (m : List (K × V)) (j : ℕ) (d : K × V) → AllKeys P m → j < length m → P (get_or m j d).0
key_at P [] j d a h = absurd (omega arith)
key_at P (x ∷ m) zero d a h = a.0
key_at P (x ∷ m) (suc j) d a h = key_at P m j d a.1 (omega arith)

is_less : (o : Ordering) → is_lt o ≡ true → o ≡ Less
is_less Less h = refl
is_less Equal h = absurd (false≢true h)
is_less Greater h = absurd (false≢true h)

module _ {K V : Type 0} {order : K → K → Ordering} (total : IsTotalOrder order) (q : K) where
  -- no key below q stands behind one that is not
  pub partitioned : (m : List (K × V)) → IsIncreasing order m → IsPartitionedBy (λ e. is_lt (order e.0 q)) m
  partitioned [] s i j d le h less = absurd (omega arith)
  partitioned (x ∷ m) s zero zero d le h less = less
  partitioned (x ∷ m) s zero (suc j) d le h less =
      ap is_lt (total.trans x.0 (get_or m j d).0 q (key_at (λ k. order x.0 k ≡ Less) m j d s.0 (omega arith)) (is_less (order (get_or m j d).0 q) less))
  partitioned (x ∷ m) s (suc i) zero d le h less = absurd (omega arith)
  partitioned (x ∷ m) s (suc i) (suc j) d le h less = partitioned m s.1 i j d (omega arith) (omega arith) less

-- the place up to which keys are below q is the number of those
pub place_rank : {K V : Type 0} (order : K → K → Ordering) (q : K) (m : List (K × V)) (i : ℕ) → i ≤ length m → IsPartitionPoint (λ e. is_lt (order e.0 q) ≡ true) (λ e. is_lt (order e.0 q) ≡ false) m i → i ≡ rank order m q
place_rank order q [] i h point = omega arith
place_rank order q (x ∷ m) i h point =
    sym (ap length (filter-take (λ e. is_lt (order e.0 q)) x (x ∷ m) i h (λ j lt. point.0 j x (omega arith) lt) (λ j le lt. point.1 j x le lt)) ∙ length-take-le i (x ∷ m) h)

-- from a key that is not below q on none is
module _ {K V : Type 0} {order : K → K → Ordering} (total : IsTotalOrder order) (q : K) (m : List (K × V)) (s : IsIncreasing order m) (i : ℕ) where
  pub not_below : (e : K × V) → e ≡ get_or m i e → is_lt (order e.0 q) ≡ false → (j : ℕ) (d : K × V) → i ≤ j → j < length m → (b : Bool) → is_lt (order (get_or m j d).0 q) ≡ b → b ≡ false
  not_below e is other j d le h false same = refl
  not_below e is other j d le h true same =
      let here : is_lt (order (get_or m i d).0 q) ≡ true = partitioned total q m s i j d le h same in
      let e_is : get_or m i d ≡ e = get_or_default m i d e (omega (arith, le, h)) ∙ sym is in
      absurd (false≢true (sym other ∙ ap (λ x. is_lt (order x.0 q)) (sym e_is) ∙ here))

-- keys below q counted from the front: up to an entry that is not below it, or to the end
module _ {K V : Type 0} {order : K → K → Ordering} (total : IsTotalOrder order) (q : K) (m : List (K × V)) (s : IsIncreasing order m) (i : ℕ) (below_all : (j : ℕ) (d : K × V) → j < i → is_lt (order (get_or m j d).0 q) ≡ true) where
  pub counted_to : (e : K × V) → i < length m → e ≡ get_or m i e → is_lt (order e.0 q) ≡ false → i ≡ rank order m q
  counted_to e h is other = place_rank order q m i (omega (arith, h)) ((λ j d le lt. below_all j d lt), (λ j d le lt. not_below total q m s i e is other j d le lt (is_lt (order (get_or m j d).0 q)) refl))

  pub counted_all : i ≡ length m → i ≡ rank order m q
  counted_all h = place_rank order q m i (omega (arith, h)) ((λ j d le lt. below_all j d lt), (λ j d le lt. absurd (omega (arith, h, le, lt))))

-- one entry more is below q
pub counted_more : {K V : Type 0} (order : K → K → Ordering) (q : K) (m : List (K × V)) (i : ℕ) (e : K × V) → i < length m → e ≡ get_or m i e → is_lt (order e.0 q) ≡ true → ((j : ℕ) (d : K × V) → j < i → is_lt (order (get_or m j d).0 q) ≡ true) → (j : ℕ) (d : K × V) → j < i + 1 → is_lt (order (get_or m j d).0 q) ≡ true
counted_more {K = K} {V = V} order q m i e h is less before j d lt =
    below_more (λ n. (x : K × V) → is_lt (order (get_or m n x).0 q) ≡ true) i (λ n under x. before n x under) (λ x. ap (λ y. is_lt (order y.0 q)) (get_or_default m i x e h ∙ sym is) ∙ less) j lt d

-- what stands at a place of a list, and behind it
first_at : {X : Type 0} (m : List X) (i : ℕ) (e : X) (rest : List X) → drop i m ≡ e ∷ rest → slice_get m i ≡ Some e
first_at [] zero e rest is = absurd (let h : [] ≡ e ∷ rest = is in cc)
first_at [] (suc i) e rest is = absurd (let h : [] ≡ e ∷ rest = is in cc)
first_at (x ∷ m) zero e rest is = ap (λ l. slice_get l 0) is
first_at (x ∷ m) (suc i) e rest is = first_at m i e rest is

behind_at : {X : Type 0} (m : List X) (i : ℕ) (e : X) (rest : List X) → drop i m ≡ e ∷ rest → drop (i + 1) m ≡ rest
behind_at [] zero e rest is = absurd (let h : [] ≡ e ∷ rest = is in cc)
behind_at [] (suc i) e rest is = absurd (let h : [] ≡ e ∷ rest = is in cc)
behind_at (x ∷ m) zero e rest is = ap (drop 1) is
behind_at (x ∷ m) (suc i) e rest is = let on : suc i + 1 ≡ suc (i + 1) = omega arith in subst (λ n. drop n (x ∷ m) ≡ rest) (sym on) (behind_at m i e rest is)

none_at : {X : Type 0} (m : List X) (i : ℕ) → drop i m ≡ [] → slice_get m i ≡ None
none_at [] zero is = refl
none_at [] (suc i) is = refl
none_at (x ∷ m) zero is = absurd (let h : x ∷ m ≡ [] = is in cc)
none_at (x ∷ m) (suc i) is = none_at m i is

module _ {K V : Type 0} {order : K → K → Ordering} (total : IsTotalOrder order) (q : K) (m : List (K × V)) (s : IsIncreasing order m) (i : ℕ) (at : i ≡ rank order m q) where
  abbrev value_if : Option (K × V) → Option V
  value_if o = option_and_then (λ e. cond (is_eq (order e.0 q)) (Some e.1) None) o

  looked_up : lookup order m q ≡ value_if (slice_get m i)
  looked_up = lookup-place total m q s ∙ ap (λ n. value_if (slice_get m n)) (sym at)

  behind : (o : Option V) → lookup order m q ≡ o → above order m q ≡ drop (i + cond (is_some o) 1 0) m
  behind o is = above-drop total m q s ∙ ap (λ p. drop (rank order m q + cond (is_some p) 1 0) m) is ∙ ap (λ n. drop (n + cond (is_some o) 1 0) m) (sym at)

  pub below_place : take i m ≡ below order m q
  below_place = ap (λ n. take n m) at ∙ sym (below-take total m q s)

  pub found_at : (e : K × V) (rest : List (K × V)) → drop i m ≡ e ∷ rest → is_eq (order e.0 q) ≡ true → (Some e.1 ≡ lookup order m q) × (rest ≡ above order m q)
  found_at e rest is same =
      let found : lookup order m q ≡ Some e.1 = looked_up ∙ ap value_if (first_at m i e rest is) ∙ ap (λ b. cond b (Some e.1) None) same in
      (sym found, sym (behind (Some e.1) found ∙ behind_at m i e rest is))

  pub missed_at : (e : K × V) (rest : List (K × V)) → drop i m ≡ e ∷ rest → is_eq (order e.0 q) ≡ false → (None ≡ lookup order m q) × (drop i m ≡ above order m q)
  missed_at e rest is other =
      let none : lookup order m q ≡ None = looked_up ∙ ap value_if (first_at m i e rest is) ∙ ap (λ b. cond b (Some e.1) None) other in
      (sym none, sym (behind None none ∙ ap (λ n. drop n m) (add-zero i)))

  pub missed_at_end : drop i m ≡ [] → (None ≡ lookup order m q) × (drop i m ≡ above order m q)
  missed_at_end is =
      let none : lookup order m q ≡ None = looked_up ∙ ap value_if (none_at m i is) in
      (sym none, sym (behind None none ∙ ap (λ n. drop n m) (add-zero i)))
