-- A search by halves for a key's place.
use Rattle.std.proofs.Common.{◌≡◌, ℕ, zero, suc, ◌+◌, ◌-◌, ◌*◌, ◌/◌, ◌^◌, ◌<◌, ◌≤◌, true, false, List, length, get_or, refl, sym, ap, subst, ◌∙◌, arith, pow-suc}
use Rattle.std.proofs.Math.Nat.{pow-zero}
use Rattle.std.proofs.lemmas.List.{get_or_default}
use Rattle.std.specs.declared.cmp.Ordering.{Ordering}
use Rattle.std.specs.Ordering.{is_lt}
use Rattle.std.specs.List.{AllWithin}
use Rattle.std.specs.Cmp.{IsTotalOrder}
use Rattle.map_model.specs.Entries.{IsIncreasing}
use Rattle.map_model.specs.Parts.{rank}
use Rattle.entry_lists.proofs.Slices.{partitioned, not_below, place_rank}

-- the keys before place are below q, and those from place + size on are not
pub record IsSeeking {K V : Type 0} (order : K → K → Ordering) (m : List (K × V)) (q : K) (place size : ℕ) : Type 0 where
  pub within : place + size ≤ length m
  pub lower : AllWithin (λ e. is_lt (order e.0 q) ≡ true) m 0 place
  pub upper : AllWithin (λ e. is_lt (order e.0 q) ≡ false) m (place + size) (length m)

-- where n halvings leave nothing of a list, those of them that are not yet taken leave nothing of what is left of it
abbrev pub StepsLeft : ℕ → ℕ → ℕ → ℕ → Type 0
StepsLeft all size old now = (n : ℕ) → all < 2 ^ n → (k : ℕ) × (size < 2 ^ k) × (now + k ≤ old + n)

-- ---- how often a list is halved

pub steps_begin : (all old : ℕ) → StepsLeft all all old old
steps_begin all old = λ n short. (n, short, omega arith)

halved : (size half old now next n k : ℕ) → 0 < size → half ≤ size / 2 → next ≡ now + 1 → size < 2 ^ k → now + k ≤ old + n → (j : ℕ) × (half < 2 ^ j) × (next + j ≤ old + n)
halved size half old now next n zero some is_half one short few =
    let none : size < 1 = subst (λ p. size < p) (pow-zero 2) short in
    absurd (omega (arith, none))
halved size half old now next n (suc k) some is_half one short few =
    let twice : size < 2 ^ k * 2 = subst (λ p. size < p) (pow-suc 2 k) short in
    (k, omega (arith, twice, is_half), omega (arith, one, few))

pub steps_on : (all size half old now next : ℕ) → StepsLeft all size old now → 0 < size → half ≤ size / 2 → next ≡ now + 1 → StepsLeft all half old next
steps_on all size half old now next left some is_half one = λ n short.
    let were = left n short in
    halved size half old now next n were.0 some is_half one were.1 were.2

pub steps_end : (all size old now : ℕ) → StepsLeft all size old now → (n : ℕ) → all < 2 ^ n → now ≤ old + n
steps_end all size old now left n short = omega (arith, (left n short).2)

-- ---- the search

module _ {K V : Type 0} (order : K → K → Ordering) (q : K) (m : List (K × V)) where
  pub seeking_begins : IsSeeking order m q 0 (length m)
  seeking_begins = record {
    within = omega arith;
    lower = λ j d from to. absurd (omega (arith, to));
    upper = λ j d from to. absurd (omega (arith, from, to));
  }

  pub seeking_ends : (place size : ℕ) → IsSeeking order m q place size → size ≤ 0 → place ≡ rank order m q
  seeking_ends place size seeking none =
      let upper : AllWithin (λ e. is_lt (order e.0 q) ≡ false) m place (length m) = λ j d from to. seeking.upper j d (omega (arith, from, none)) to in
      place_rank order q m place (omega (arith, seeking.within)) (seeking.lower, upper)

module _ {K V : Type 0} {order : K → K → Ordering} (total : IsTotalOrder order) (q : K) (m : List (K × V)) (increasing : IsIncreasing order m) (place size half : ℕ) (seeking : IsSeeking order m q place size) (some : 0 < size) (is_half : half ≡ size / 2) (e : K × V) (at : e ≡ get_or m (place + half) e) where
  inside : place + half < length m
  inside = omega (arith, seeking.within)

  pub seeking_above : is_lt (order e.0 q) ≡ true → IsSeeking order m q (place + half + 1) (size - (half + 1))
  seeking_above less = record {
    within = omega (arith, seeking.within);
    lower = λ j d from to. partitioned total q m increasing j (place + half) d (omega (arith, to)) inside (ap (λ x. is_lt (order x.0 q)) (get_or_default m (place + half) d e inside ∙ sym at) ∙ less);
    upper = λ j d from to. seeking.upper j d (omega (arith, from)) to;
  }

  pub seeking_below : is_lt (order e.0 q) ≡ false → IsSeeking order m q place half
  seeking_below other = record {
    within = omega (arith, seeking.within);
    lower = seeking.lower;
    upper = λ j d from to. not_below total q m increasing (place + half) e at other j d from to (is_lt (order (get_or m j d).0 q)) refl;
  }
