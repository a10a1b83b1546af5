-- The entries in a range of keys, around an entry.
use Rattle.std.proofs.Common.{◌≡◌, Bool, true, false, cond, ◌&&◌, List, [], ◌∷◌, ◌++◌, refl, sym, ap, ap₂, ◌∙◌}
use Rattle.std.specs.declared.cmp.Ordering.{Ordering}
use Rattle.std.specs.declared.cmp.Ordering.TheVariants.{Less, Equal, Greater}
use Rattle.std.specs.Ordering.{is_lt, is_gt, is_le, is_ge, ordering_reverse}
use Rattle.std.specs.Cmp.{IsTotalOrder}
use Rattle.std.proofs.lemmas.Bool.{and_right, false≢true, true≢false}
use Rattle.std.proofs.lemmas.Cmp.{upto, tied_itself}
use Rattle.std.proofs.lemmas.List.{append-nil}
use Rattle.std.proofs.lemmas.List.Elements.{filter-append}
use Rattle.map_model.specs.Entries.{IsIncreasing}
use Rattle.map_model.proofs.Keys.{AllKeys-map, AllKeys-all, around}
use Rattle.map_model.proofs.Filters.{filter-all_keys, filter-no_keys, filter-same_keys}
use Rattle.tree_query.specs.declared.range.KeyRange.{KeyRange}
use Rattle.tree_query.specs.declared.range.KeyRange.TheVariants.{All, AtMost, AtLeast, Between, Below, Above}
use Rattle.tree_query.specs.Within.{in_range, ends_before, begins_after, within, is_all, left_part, right_part}

-- ---- tests of an ordering, and of the reversed one

le_true : (o : Ordering) → is_gt o ≡ false → is_le o ≡ true
le_true Less h = refl
le_true Equal h = refl
le_true Greater h = absurd (true≢false h)

le_false : (o : Ordering) → is_gt o ≡ true → is_le o ≡ false
le_false Less h = absurd (false≢true h)
le_false Equal h = absurd (false≢true h)
le_false Greater h = refl

not_gt : (o : Ordering) → is_le o ≡ true → is_gt o ≡ false
not_gt Less h = refl
not_gt Equal h = refl
not_gt Greater h = absurd (false≢true h)

gt_true : (o : Ordering) → is_le o ≡ false → is_gt o ≡ true
gt_true Less h = absurd (true≢false h)
gt_true Equal h = absurd (true≢false h)
gt_true Greater h = refl

ge_true : (o : Ordering) → is_lt o ≡ false → is_ge o ≡ true
ge_true Less h = absurd (true≢false h)
ge_true Equal h = refl
ge_true Greater h = refl

lt_true : (o : Ordering) → is_ge o ≡ false → is_lt o ≡ true
lt_true Less h = refl
lt_true Equal h = absurd (true≢false h)
lt_true Greater h = absurd (true≢false h)

lt_reversed : (o : Ordering) → is_lt (ordering_reverse o) ≡ is_gt o
lt_reversed Less = refl
lt_reversed Equal = refl
lt_reversed Greater = refl

ge_reversed : (o : Ordering) → is_ge (ordering_reverse o) ≡ is_le o
ge_reversed Less = refl
ge_reversed Equal = refl
ge_reversed Greater = refl

-- ---- keys

module _ {K : Type 0} {order : K → K → Ordering} (total : IsTotalOrder order) where
  lt_is : (a b : K) → is_lt (order a b) ≡ is_gt (order b a)
  lt_is a b = ap is_lt (total.antisymm a b) ∙ lt_reversed (order b a)

  ge_is : (a b : K) → is_ge (order a b) ≡ is_le (order b a)
  ge_is a b = ap is_ge (total.antisymm a b) ∙ ge_reversed (order b a)

  -- a is greater than c, and b is at least a
  gt_back : (a b c : K) → is_gt (order a c) ≡ true → is_gt (order a b) ≡ false → is_gt (order b c) ≡ true
  gt_back a b c more least = elim (is_gt (order b c)) as (λ x. is_gt (order b c) ≡ x → x ≡ true) [
    | true ↦ λ _. refl
    | false ↦ λ is. absurd (true≢false (sym more ∙ upto total a b c least is))
  ] refl

  -- a is greater than c, and b is at most c
  gt_front : (a b c : K) → is_gt (order a c) ≡ true → is_gt (order b c) ≡ false → is_gt (order a b) ≡ true
  gt_front a b c more most = elim (is_gt (order a b)) as (λ x. is_gt (order a b) ≡ x → x ≡ true) [
    | true ↦ λ _. refl
    | false ↦ λ is. absurd (true≢false (sym more ∙ upto total a b c is most))
  ] refl

  -- a key that is at least one past the end of a range is past its end
  past_end : (range : KeyRange K) (key k : K) → ends_before order range key ≡ true → is_gt (order key k) ≡ false → in_range order range k ≡ false
  past_end All key k past least = absurd (false≢true past)
  past_end (AtMost hi) key k past least = le_false (order k hi.now) (gt_back key k hi.now past least)
  past_end (AtLeast lo) key k past least = absurd (false≢true past)
  past_end (Between lo hi) key k past least = and_right (is_ge (order k lo.now)) (is_le (order k hi.now)) (le_false (order k hi.now) (gt_back key k hi.now past least))
  past_end (Below hi) key k past least = lt_is k hi.now ∙ upto total hi.now key k (not_gt (order hi.now key) (sym (ge_is key hi.now) ∙ past)) least
  past_end (Above lo) key k past least = absurd (false≢true past)

  -- a key that is at most one before the begin of a range is before its begin
  before_begin : (range : KeyRange K) (key k : K) → begins_after order range key ≡ true → is_gt (order k key) ≡ false → in_range order range k ≡ false
  before_begin All key k early most = absurd (false≢true early)
  before_begin (AtMost hi) key k early most = absurd (false≢true early)
  before_begin (AtLeast lo) key k early most = ge_is k lo.now ∙ le_false (order lo.now k) (gt_front lo.now k key (sym (lt_is key lo.now) ∙ early) most)
  before_begin (Between lo hi) key k early most = ap (λ b. b && is_le (order k hi.now)) (ge_is k lo.now ∙ le_false (order lo.now k) (gt_front lo.now k key (sym (lt_is key lo.now) ∙ early) most))
  before_begin (Below hi) key k early most = absurd (false≢true early)
  before_begin (Above lo) key k early most = upto total k key lo.now most (not_gt (order key lo.now) early)

  -- a key neither past the end of a range nor before its begin
  pub inside : (range : KeyRange K) (key : K) → ends_before order range key ≡ false → begins_after order range key ≡ false → in_range order range key ≡ true
  inside All key upto_end from_begin = refl
  inside (AtMost hi) key upto_end from_begin = le_true (order key hi.now) upto_end
  inside (AtLeast lo) key upto_end from_begin = ge_true (order key lo.now) from_begin
  inside (Between lo hi) key upto_end from_begin = ap₂ (λ x y. x && y) (ge_true (order key lo.now) from_begin) (le_true (order key hi.now) upto_end)
  inside (Below hi) key upto_end from_begin = lt_true (order key hi.now) upto_end
  inside (Above lo) key upto_end from_begin = gt_true (order key lo.now) from_begin

  -- of the keys that are at most one in a range, those that lie in the range
  left_alike : (range : KeyRange K) (key k : K) → ends_before order range key ≡ false → is_gt (order k key) ≡ false → in_range order range k ≡ in_range order (left_part range) k
  left_alike All key k upto_end most = refl
  left_alike (AtMost hi) key k upto_end most = le_true (order k hi.now) (upto total k key hi.now most upto_end)
  left_alike (AtLeast lo) key k upto_end most = refl
  left_alike (Between lo hi) key k upto_end most = and_true (is_ge (order k lo.now)) (is_le (order k hi.now)) (le_true (order k hi.now) (upto total k key hi.now most upto_end))
    where
      and_true : (x y : Bool) → y ≡ true → (x && y) ≡ x
      and_true true y h = h
      and_true false y h = refl
  left_alike (Below hi) key k upto_end most = lt_is k hi.now ∙ gt_front hi.now k key (sym (lt_is key hi.now) ∙ lt_true (order key hi.now) upto_end) most
  left_alike (Above lo) key k upto_end most = refl

  -- of the keys that are at least one in a range, those that lie in the range
  right_alike : (range : KeyRange K) (key k : K) → begins_after order range key ≡ false → is_gt (order key k) ≡ false → in_range order range k ≡ in_range order (right_part range) k
  right_alike All key k from_begin least = refl
  right_alike (AtMost hi) key k from_begin least = refl
  right_alike (AtLeast lo) key k from_begin least = ge_is k lo.now ∙ le_true (order lo.now k) (upto total lo.now key k (sym (lt_is key lo.now) ∙ from_begin) least)
  right_alike (Between lo hi) key k from_begin least = ap (λ b. b && is_le (order k hi.now)) (ge_is k lo.now ∙ le_true (order lo.now k) (upto total lo.now key k (sym (lt_is key lo.now) ∙ from_begin) least))
  right_alike (Below hi) key k from_begin least = refl
  right_alike (Above lo) key k from_begin least = gt_back key k lo.now (gt_true (order key lo.now) from_begin) least

-- ---- lists

module _ {K V : Type 0} (order : K → K → Ordering) where
  within-all : (m : List (K × V)) → within order All m ≡ m
  within-all m = filter-all_keys (λ _. true) m (AllKeys-all (λ _. true ≡ true) (λ _. refl) m)

  -- the range has all keys
  pub within-whole : (range : KeyRange K) (m : List (K × V)) → is_all range ≡ true → within order range m ≡ m
  within-whole All m whole = within-all m
  within-whole (AtMost hi) m whole = absurd (false≢true whole)
  within-whole (AtLeast lo) m whole = absurd (false≢true whole)
  within-whole (Between lo hi) m whole = absurd (false≢true whole)
  within-whole (Below hi) m whole = absurd (false≢true whole)
  within-whole (Above lo) m whole = absurd (false≢true whole)

  pub within-append : (range : KeyRange K) (l r : List (K × V)) → within order range (l ++ r) ≡ within order range l ++ within order range r
  within-append range l r = filter-append (λ e. in_range order range e.0) l r

module _ {K V : Type 0} {order : K → K → Ordering} (total : IsTotalOrder order) (range : KeyRange K) (l : List (K × V)) (key : K) (val : V) (r : List (K × V)) (s : IsIncreasing order (l ++ (key, val) ∷ r)) where
  itself : is_gt (order key key) ≡ false
  itself = ap is_gt (tied_itself total key)

  less_most : (k : K) → order k key ≡ Less → is_gt (order k key) ≡ false
  less_most k h = ap is_gt h

  greater_least : (k : K) → order key k ≡ Less → is_gt (order key k) ≡ false
  greater_least k h = ap is_gt h

  -- the range ends before the key
  pub within-before : ends_before order range key ≡ true → within order range (l ++ (key, val) ∷ r) ≡ within order range l
  within-before past =
      within-append order range l ((key, val) ∷ r)
      ∙ ap (λ x. within order range l ++ x) (filter-no_keys (in_range order range) ((key, val) ∷ r) (past_end total range key key past itself, AllKeys-map (λ k. order key k ≡ Less) (λ k. in_range order range k ≡ false) (λ k h. past_end total range key k past (greater_least k h)) r (around order l key val r s).upper))
      ∙ append-nil (within order range l)

  -- the range begins after the key
  pub within-after : begins_after order range key ≡ true → within order range (l ++ (key, val) ∷ r) ≡ within order range r
  within-after early =
      within-append order range l ((key, val) ∷ r)
      ∙ ap₂ (λ x b. x ++ cond b ((key, val) ∷ within order range r) (within order range r)) (filter-no_keys (in_range order range) l (AllKeys-map (λ k. order k key ≡ Less) (λ k. in_range order range k ≡ false) (λ k h. before_begin total range key k early (less_most k h)) l (around order l key val r s).lower)) (before_begin total range key key early itself)

  -- the key lies in the range
  pub within-inside : ends_before order range key ≡ false → begins_after order range key ≡ false → within order range (l ++ (key, val) ∷ r) ≡ within order (left_part range) l ++ (key, val) ∷ within order (right_part range) r
  within-inside upto_end from_begin =
      let lows : within order range l ≡ within order (left_part range) l = filter-same_keys (in_range order range) (in_range order (left_part range)) l (AllKeys-map (λ k. order k key ≡ Less) (λ k. in_range order range k ≡ in_range order (left_part range) k) (λ k h. left_alike total range key k upto_end (less_most k h)) l (around order l key val r s).lower) in
      let highs : within order range r ≡ within order (right_part range) r = filter-same_keys (in_range order range) (in_range order (right_part range)) r (AllKeys-map (λ k. order key k ≡ Less) (λ k. in_range order range k ≡ in_range order (right_part range) k) (λ k h. right_alike total range key k from_begin (greater_least k h)) r (around order l key val r s).upper) in
      within-append order range l ((key, val) ∷ r)
      ∙ ap (λ b. within order range l ++ cond b ((key, val) ∷ within order range r) (within order range r)) (inside total range key upto_end from_begin)
      ∙ ap₂ (λ x y. x ++ (key, val) ∷ y) lows highs

  -- an entry before the begin of the range
  pub within-early : begins_after order range key ≡ true → within order range ((key, val) ∷ []) ≡ []
  within-early early = ap (λ b. cond b ((key, val) ∷ []) []) (before_begin total range key key early itself)
