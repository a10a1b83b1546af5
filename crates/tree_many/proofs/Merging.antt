-- Answers for sorted keys in increasing entries, one entry after another.
use Rattle.std.proofs.Common.{◌≡◌, ℕ, zero, suc, ◌+◌, ◌<◌, ◌≤◌, Bool, true, false, cond, List, [], ◌∷◌, ◌++◌, map, length, take, drop, get_or, Option, Some, None, refl, sym, ap, ◌∙◌, arith}
use Rattle.std.specs.declared.cmp.Ordering.{Ordering}
use Rattle.std.specs.declared.cmp.Ordering.TheVariants.{Less, Equal, Greater}
use Rattle.std.specs.Ordering.{is_eq, is_gt, is_le}
use Rattle.std.specs.Cmp.{IsTotalOrder}
use Rattle.std.specs.List.{slice_get}
use Rattle.std.specs.List.Sorted.{IsSortedByKey}
use Rattle.std.proofs.lemmas.Bool.{false≢true, true≢false}
use Rattle.std.proofs.lemmas.List.{get_or_default, map-append, take-append-drop}
use Rattle.map_model.specs.Entries.{AllAbove, AllKeys, IsIncreasing, lookup}
use Rattle.map_model.proofs.Keys.{greater, lesser}
use Rattle.map_model.proofs.Lookups.{lookup_left, lookup_middle, lookup_right}
use Rattle.tree_many.proofs.Nodes.{agree}
use Rattle.tree_many.proofs.Parted.{all_back, is_greater, most_parted}

-- ---- keys up to a place

is_above : (o : Ordering) → is_gt o ≡ true → is_le o ≡ false
is_above Less h = absurd (false≢true h)
is_above Equal h = absurd (false≢true h)
is_above Greater h = refl

pub is_upto : (o : Ordering) → is_gt o ≡ false → is_le o ≡ true
is_upto Less h = refl
is_upto Equal h = refl
is_upto Greater h = absurd (true≢false h)

module _ {K V : Type 0} {order : K → K → Ordering} (total : IsTotalOrder order) (q : K) (m : List (K × V)) (up : IsSortedByKey (λ (e : K × V). e.0) order m) where
  not_upto : (i : ℕ) (e : K × V) → i < length m → e ≡ get_or m i e → is_le (order e.0 q) ≡ false → (j : ℕ) (d : K × V) → i ≤ j → j < length m → (b : Bool) → is_le (order (get_or m j d).0 q) ≡ b → b ≡ false
  not_upto i e h is other j d le lt false same = refl
  not_upto i e h is other j d le lt true same =
      let here : is_le (order (get_or m i d).0 q) ≡ true = most_parted total q m up i j d le lt same in
      let e_is : get_or m i d ≡ e = get_or_default m i d e h ∙ sym is in
      absurd (false≢true (sym other ∙ ap (λ (x : K × V). is_le (order x.0 q)) (sym e_is) ∙ here))

  -- from the first key above q on, all are
  pub above_from : (i : ℕ) (e : K × V) → i < length m → e ≡ get_or m i e → is_gt (order e.0 q) ≡ true → AllAbove order (drop i m) q
  above_from i e h is other =
      all_back (λ k. order q k ≡ Less) m i (λ j d le lt. lesser total (get_or m j d).0 q (is_greater (order (get_or m j d).0 q) (not_upto i e h is (is_above (order e.0 q) other) j d le lt (is_le (order (get_or m j d).0 q)) refl)))

-- ---- one entry

module _ {K V X : Type 0} {order : K → K → Ordering} (total : IsTotalOrder order) (f : Option V → X) (key : K) (val : V) (more : List (K × V)) (s : IsIncreasing order ((key, val) ∷ more)) where
  upto : (q : K) → is_le (order q key) ≡ true → f (lookup order ((key, val) ∷ more) q) ≡ f (cond (is_eq (order q key)) (Some val) None)
  upto q h = elim (order q key) as (λ o. order q key ≡ o → is_le o ≡ true → f (lookup order ((key, val) ∷ more) q) ≡ f (cond (is_eq o) (Some val) None)) [
    | Less ↦ λ is _. ap f (lookup_left total [] key val more q s is)
    | Equal ↦ λ is _. ap f (lookup_middle total [] key val more q s is)
    | Greater ↦ λ _ no. absurd (false≢true no)
  ] refl h

  abbrev answers : List (K × V) → List (K × ℕ) → List (ℕ × X)
  answers m keys = map (λ e. (e.1, f (lookup order m e.0))) keys

  -- the keys up to it are answered by it, and those above it by what follows
  pub answers_split : (keys : List (K × ℕ)) (n : ℕ) → AllKeys (λ k. is_le (order k key) ≡ true) (take n keys) → AllAbove order (drop n keys) key → map {B = ℕ × X} (λ (e : K × ℕ). (e.1, f (cond (is_eq (order e.0 key)) (Some val) None))) (take n keys) ++ answers more (drop n keys) ≡ answers ((key, val) ∷ more) keys
  answers_split keys n front back =
      let whole : List (K × V) = (key, val) ∷ more in
      let near = agree (λ k. is_le (order k key) ≡ true) (λ k. f (lookup order whole k)) (λ k. f (cond (is_eq (order k key)) (Some val) None)) upto (take n keys) front in
      let far = agree (λ k. order key k ≡ Less) (λ k. f (lookup order whole k)) (λ k. f (lookup order more k)) (λ k h. ap f (lookup_right total [] key val more k s (greater total key k h))) (drop n keys) back in
      sym (ap (answers whole) (sym (take-append-drop n keys)) ∙ map-append {B = ℕ × X} (λ (e : K × ℕ). (e.1, f (lookup order whole e.0))) (take n keys) (drop n keys) ∙ rw (near, far) refl)

-- ---- what is left of the entries

module _ {K V : Type 0} (order : K → K → Ordering) where
  pub increasing_behind : (m : List (K × V)) (i : ℕ) → IsIncreasing order m → IsIncreasing order (drop i m)
  increasing_behind [] zero s = s
  increasing_behind [] (suc i) s = s
  increasing_behind (e ∷ m) zero s = s
  increasing_behind (e ∷ m) (suc i) s = increasing_behind m i s.1

pub left_at : {X : Type 0} (m : List X) (i : ℕ) (e : X) → slice_get m i ≡ Some e → drop i m ≡ e ∷ drop (i + 1) m
left_at [] zero e is = absurd (let h : None ≡ Some e = is in cc)
left_at [] (suc i) e is = absurd (let h : None ≡ Some e = is in cc)
left_at (x ∷ m) zero e is = ap (λ y. y ∷ m) (let h : Some x ≡ Some e = is in cc)
left_at (x ∷ m) (suc i) e is = left_at m i e is ∙ ap (λ n. e ∷ drop n (x ∷ m)) {x = suc (i + 1)} {y = suc i + 1} (omega arith)
