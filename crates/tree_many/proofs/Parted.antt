-- Sorted keys with their places, divided at a key.
use Rattle.std.proofs.Common.{◌≡◌, ℕ, ◌+◌, ◌<◌, ◌≤◌, Bool, true, false, List, length, take, drop, get_or, refl, sym, ap, ap₂, subst, ◌∙◌, arith, length-take, length-drop}
use Rattle.std.specs.declared.cmp.Ordering.{Ordering}
use Rattle.std.specs.declared.cmp.Ordering.TheVariants.{Less, Equal, Greater}
use Rattle.std.specs.Ordering.{is_le, is_lt, ordering_index}
use Rattle.std.specs.Cmp.{IsTotalOrder}
use Rattle.std.specs.List.{AllWithin}
use Rattle.std.specs.List.Sorted.{IsNonDecreasingBy, IsPartitionedBy, IsPartitionPoint, IsSortedBy, IsSortedByKey}
use Rattle.std.proofs.lemmas.Bool.{false≢true, true≢false}
use Rattle.std.proofs.lemmas.List.{get_or-take, get_or-drop, take-append-drop}
use Rattle.std.proofs.lemmas.List.Elements.{recursion_from_All}
use Rattle.std.proofs.lemmas.List.Sorted.{searchable_from_sorted}
use Rattle.map_model.specs.Entries.{AllAbove, AllBelow, AllKeys}
use Rattle.map_model.proofs.Keys.{AllKeys-map, AllKeys-map₂, AllKeys-front, lesser}

-- ---- what is sorted stays so in a part

module _ {X : Type 0} (lt : X → X → Bool) (xs : List X) (i : ℕ) (up : IsSortedBy lt xs) where
  pub sorted_take : IsSortedBy lt (take i xs)
  sorted_take k d low high =
      let long = length-take i xs in
      ap₂ lt (get_or-take i xs (k + 1) d (omega (arith, long, high))) (get_or-take i xs k d (omega (arith, long, high))) ∙ up k d low (omega (arith, long, high))

  pub sorted_drop : IsSortedBy lt (drop i xs)
  sorted_drop k d low high =
      let long = length-drop i xs in
      let next : get_or (drop i xs) (k + 1) d ≡ get_or xs (i + k + 1) d = get_or-drop i xs (k + 1) d ∙ ap (λ n. get_or xs n d) {x = i + (k + 1)} {y = i + k + 1} (omega arith) in
      ap₂ lt next (get_or-drop i xs k d) ∙ up (i + k) d (omega arith) (omega (arith, long, high))

-- ---- by places, and by recursion

module _ {K V : Type 0} (P : K → Type 0) (m : List (K × V)) (i : ℕ) where
  all_front : AllWithin (λ (e : K × V). P e.0) m 0 i → AllKeys P (take i m)
  all_front h = recursion_from_All (λ (e : K × V). P e.0) (take i m) (λ k d lt.
      let long = length-take i m in
      let inside : k < i = omega (arith, long, lt) in
      subst (λ (x : K × V). P x.0) (sym (get_or-take i m k d inside)) (h k d (omega arith) inside))

  pub all_back : AllWithin (λ (e : K × V). P e.0) m i (length m) → AllKeys P (drop i m)
  all_back h = recursion_from_All (λ (e : K × V). P e.0) (drop i m) (λ k d lt.
      let long = length-drop i m in
      subst (λ (x : K × V). P x.0) (sym (get_or-drop i m k d)) (h (i + k) d (omega arith) (omega (arith, long, lt))))

-- ---- tests of an order

is_less : (o : Ordering) → is_lt o ≡ true → o ≡ Less
is_less Less h = refl
is_less Equal h = absurd (false≢true h)
is_less Greater h = absurd (false≢true h)

pub is_greater : (o : Ordering) → is_le o ≡ false → o ≡ Greater
is_greater Less h = absurd (true≢false h)
is_greater Equal h = absurd (true≢false h)
is_greater Greater h = refl

ties : (o : Ordering) → is_lt o ≡ false → is_le o ≡ true → o ≡ Equal
ties Less h g = absurd (true≢false h)
ties Equal h g = refl
ties Greater h g = absurd (false≢true g)

less_before : (a b : Ordering) → ordering_index a ≤ ordering_index b → is_lt b ≡ true → is_lt a ≡ true
less_before Less b h g = refl
less_before Equal Less h g = absurd (omega (arith, h))
less_before Equal Equal h g = g
less_before Equal Greater h g = g
less_before Greater Less h g = absurd (omega (arith, h))
less_before Greater Equal h g = g
less_before Greater Greater h g = g

most_before : (a b : Ordering) → ordering_index a ≤ ordering_index b → is_le b ≡ true → is_le a ≡ true
most_before Less b h g = refl
most_before Equal b h g = refl
most_before Greater Less h g = absurd (omega (arith, h))
most_before Greater Equal h g = absurd (omega (arith, h))
most_before Greater Greater h g = g

-- ---- sorted keys around a key

module _ {K V : Type 0} {order : K → K → Ordering} (total : IsTotalOrder order) (q : K) (m : List (K × V)) (up : IsSortedByKey (λ (e : K × V). e.0) order m) where
  rises : IsNonDecreasingBy (λ (e : K × V). ordering_index (order e.0 q)) m
  rises = searchable_from_sorted total (λ (e : K × V). e.0) m q up

  pub less_parted : IsPartitionedBy (λ e. is_lt (order e.0 q)) m
  less_parted i j d le lt here = less_before (order (get_or m i d).0 q) (order (get_or m j d).0 q) (rises i j d le lt) here

  pub most_parted : IsPartitionedBy (λ e. is_le (order e.0 q)) m
  most_parted i j d le lt here = most_before (order (get_or m i d).0 q) (order (get_or m j d).0 q) (rises i j d le lt) here

module _ {K V : Type 0} {order : K → K → Ordering} (total : IsTotalOrder order) (q : K) (m : List (K × V)) (i : ℕ) where
  pub front_below : IsPartitionPoint (λ e. is_lt (order e.0 q) ≡ true) (λ e. is_lt (order e.0 q) ≡ false) m i → AllBelow order (take i m) q
  front_below point = AllKeys-map (λ k. is_lt (order k q) ≡ true) (λ k. order k q ≡ Less) (λ k h. is_less (order k q) h) (take i m) (all_front (λ k. is_lt (order k q) ≡ true) m i point.0)

  pub back_least : IsPartitionPoint (λ e. is_lt (order e.0 q) ≡ true) (λ e. is_lt (order e.0 q) ≡ false) m i → AllKeys (λ k. is_lt (order k q) ≡ false) (drop i m)
  back_least point = all_back (λ k. is_lt (order k q) ≡ false) m i point.1

  pub front_same : AllKeys (λ k. is_lt (order k q) ≡ false) m → IsPartitionPoint (λ e. is_le (order e.0 q) ≡ true) (λ e. is_le (order e.0 q) ≡ false) m i → AllKeys (λ k. order k q ≡ Equal) (take i m)
  front_same least point =
      let front : AllKeys (λ k. is_lt (order k q) ≡ false) (take i m) = AllKeys-front (λ k. is_lt (order k q) ≡ false) (take i m) (drop i m) (subst (AllKeys (λ k. is_lt (order k q) ≡ false)) (sym (take-append-drop i m)) least) in
      AllKeys-map₂ (λ k. is_lt (order k q) ≡ false) (λ k. is_le (order k q) ≡ true) (λ k. order k q ≡ Equal) (λ k h g. ties (order k q) h g) (take i m) front (all_front (λ k. is_le (order k q) ≡ true) m i point.0)

  pub back_above : IsPartitionPoint (λ e. is_le (order e.0 q) ≡ true) (λ e. is_le (order e.0 q) ≡ false) m i → AllAbove order (drop i m) q
  back_above point = AllKeys-map (λ k. is_le (order k q) ≡ false) (λ k. order q k ≡ Less) (λ k h. lesser total k q (is_greater (order k q) h)) (drop i m) (all_back (λ k. is_le (order k q) ≡ false) m i point.1)
