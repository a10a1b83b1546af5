-- The terms that begin with some bytes: in the order of bytes they stand together, and none before them is at least those bytes.
use Rattle.std.proofs.Common.{◌≡◌, ◌==◌, ◌&&◌, ◌||◌, ℕ, Bool, true, false, cond, List, [], ◌∷◌, ◌++◌, None, Option, length, map, nat_eq, refl, sym, ap, ◌∙◌, subst, arith}
use Rattle.std.specs.declared.cmp.Ordering.{Ordering}
use Rattle.std.specs.declared.cmp.Ordering.TheVariants.{Less, Equal, Greater}
use Rattle.std.specs.Char.{is_ascii_alphanumeric, to_ascii_lowercase}
use Rattle.std.specs.List.{filter, list_all, slice_range}
use Rattle.std.specs.Map.{keys_of}
use Rattle.std.specs.Option.{is_some}
use Rattle.std.specs.Ordering.{is_ge, nat_cmp, ordering_then}
use Rattle.std.proofs.lemmas.Bool.{eqb-true}
use Rattle.std.proofs.lemmas.Bool.Decides.{nat_tests}
use Rattle.std.proofs.lemmas.Cmp.{nat_list_cmp_total}
use Rattle.std.proofs.lemmas.List.{append_assoc, append-nil, take_rest}
use Rattle.std.proofs.lemmas.Map.Lookups.{exact_bytes}
use Rattle.map_model.specs.Entries.{AllKeys, IsIncreasing, lookup}
use Rattle.map_model.specs.Parts.{rank, right_of}
use Rattle.map_model.proofs.Filters.{filter-no_keys}
use Rattle.map_model.proofs.Keys.{AllKeys-map, AllKeys-passed, IsIncreasing-filter}
use Rattle.map_model.proofs.Lookups.{lookup-filter_keys}
use Rattle.map_model.proofs.Members.{has_key}
use Rattle.map_model.proofs.Places.{right_of-drop}
use Rattle.map_model.proofs.Sorted.{ordered_from_IsIncreasing}
use Rattle.inverted_index.specs.Merging.{Lists, terms_with}
use Rattle.inverted_index.specs.Queries.{AreTerms, AreTermsFrom, Document, begins, has, if_filled, inverted, is_had, weight_in}
use Rattle.inverted_index.specs.Terms.{IsTerm, bytes_cmp, is_term, small}

abbrev Postings : Type 0
Postings = List (ℕ × ℕ)

-- ---- the order of bytes

first_true : (s t : Bool) → (s && t) ≡ true → s ≡ true
first_true true t h = refl
first_true false t h = h

second_true : (s t : Bool) → (s && t) ≡ true → t ≡ true
second_true true t h = h
second_true false t h = absurd (let bad : false ≡ true = h in cc)

tied : (x y : ℕ) → nat_eq x y ≡ true → nat_cmp y x ≡ Equal
tied x y h = grind (arith, nat_tests)

apart : (x y : ℕ) → nat_cmp x y ≡ Less → nat_eq x y ≡ false
apart x y h = grind (arith, nat_tests)

-- what begins with some bytes is at least those
pub at_least : (front t : List ℕ) → begins front t ≡ true → is_ge (bytes_cmp t front) ≡ true
at_least [] [] h = refl
at_least [] (y ∷ t) h = refl
at_least (x ∷ front) [] h = absurd (let bad : false ≡ true = h in cc)
at_least (x ∷ front) (y ∷ t) h = ap (λ o. is_ge (ordering_then o (bytes_cmp t front))) (tied x y (first_true (nat_eq x y) (begins front t) h)) ∙ at_least front t (second_true (nat_eq x y) (begins front t) h)

-- behind bytes that are at least some and don't begin with these, none begins with them
pub past : (front s t : List ℕ) → is_ge (bytes_cmp s front) ≡ true → begins front s ≡ false → bytes_cmp s t ≡ Less → begins front t ≡ false
past [] s t from none less = absurd (let bad : true ≡ false = none in cc)
past (x ∷ front) [] t from none less = absurd (let bad : false ≡ true = from in cc)
past (x ∷ front) (y ∷ s) [] from none less = refl
past (x ∷ front) (y ∷ s) (z ∷ t) from none less = elim (nat_cmp y x) as (λ o. nat_cmp y x ≡ o → is_ge (ordering_then o (bytes_cmp s front)) ≡ true → (nat_eq x z && begins front t) ≡ false) [
  | Less ↦ λ _ bad. absurd (let no : false ≡ true = bad in cc)
  | Equal ↦ λ same later. elim (nat_cmp y z) as (λ o. nat_cmp y z ≡ o → ordering_then o (bytes_cmp s t) ≡ Less → (nat_eq x z && begins front t) ≡ false) [
    | Less ↦ λ below _. ap (λ b. b && begins front t) (over x y z same below)
    | Equal ↦ λ ties after. unlike (nat_eq x z) (past front s t later (behind x y (begins front s) same none) after)
    | Greater ↦ λ _ bad. absurd (let no : ◌≡◌ {A = Ordering} Greater Less = bad in cc)
  ] refl less
  | Greater ↦ λ more _. ap (λ b. b && begins front t) (beyond x y z more (first_step y z (bytes_cmp s t) less))
] refl from
  where
    over : (x y z : ℕ) → nat_cmp y x ≡ Equal → nat_cmp y z ≡ Less → nat_eq x z ≡ false
    over x y z same below = grind (arith, nat_tests)

    behind : (x y : ℕ) (b : Bool) → nat_cmp y x ≡ Equal → (nat_eq x y && b) ≡ false → b ≡ false
    behind x y b same none = let is : nat_eq x y ≡ true = grind (arith, nat_tests) in sym (ap (λ a. a && b) is) ∙ none

    unlike : (a : Bool) {b : Bool} → b ≡ false → (a && b) ≡ false
    unlike true h = h
    unlike false h = refl

    first_step : (y z : ℕ) (o : Ordering) → ordering_then (nat_cmp y z) o ≡ Less → nat_cmp z y ≡ Less → ⊥
    first_step y z o less back = grind (arith, nat_tests)

    beyond : (x y z : ℕ) → nat_cmp y x ≡ Greater → (nat_cmp z y ≡ Less → ⊥) → nat_eq x z ≡ false
    beyond x y z more not_back = grind (arith, nat_tests)

-- ---- a walk along lists

module _ (front : List ℕ) where
  -- the lists whose terms begin so are among those at least the front
  pub from_front : (P : Lists) → terms_with front P ≡ terms_with front (right_of bytes_cmp P front)
  from_front [] = refl
  from_front (e ∷ P) =
      elim (begins front e.0) as (λ b. begins front e.0 ≡ b → keys_of (cond b (e ∷ filter (λ d. begins front d.0) P) (filter (λ d. begins front d.0) P)) ≡ terms_with front (cond (is_ge (bytes_cmp e.0 front)) (e ∷ right_of bytes_cmp P front) (right_of bytes_cmp P front))) [
        | true ↦ λ is. rw (at_least front e.0 is, is) (ap (λ ts. e.0 ∷ ts) (from_front P))
        | false ↦ λ is. elim (is_ge (bytes_cmp e.0 front)) as (λ b. terms_with front P ≡ terms_with front (cond b (e ∷ right_of bytes_cmp P front) (right_of bytes_cmp P front))) [
          | true ↦ rw is (from_front P)
          | false ↦ from_front P
        ]
      ] refl

  abbrev pub AreFrom : Lists → Type 0
  AreFrom P = AllKeys (λ t. is_ge (bytes_cmp t front) ≡ true) P

  -- what a walk has seen, and the lists that are left
  pub record IsWalk (P : Lists) (seen : List (List ℕ)) (rest : Lists) : Type 0 where
    pub same : terms_with front P ≡ seen ++ terms_with front rest
    pub rises : IsIncreasing bytes_cmp rest
    pub from : AreFrom rest

  pub walk_start : (P rest : Lists) (start end : ℕ) (seen : List (List ℕ)) → IsIncreasing bytes_cmp P → start ≡ rank bytes_cmp P front → end ≡ length P → rest ≡ slice_range P start end → seen ≡ [] → IsWalk P seen rest
  walk_start P rest start end seen s first last is none =
      let whole : rest ≡ slice_range P (rank bytes_cmp P front) (length P) = is ∙ ap (λ n. slice_range P n end) first ∙ ap (slice_range P (rank bytes_cmp P front)) last in
      let at : rest ≡ right_of bytes_cmp P front = whole ∙ take_rest P (rank bytes_cmp P front) ∙ sym (right_of-drop nat_list_cmp_total P front s) in
      let there : IsWalk P [] (right_of bytes_cmp P front) = record {
        same = from_front P;
        rises = IsIncreasing-filter bytes_cmp (λ e. is_ge (bytes_cmp e.0 front)) P s;
        from = AllKeys-passed (λ t. is_ge (bytes_cmp t front) ≡ true) (λ e. is_ge (bytes_cmp e.0 front)) (λ e h. h) P;
      } in
      subst (λ (ts : List (List ℕ)). IsWalk P ts rest) (sym none) (subst (λ (m : Lists). IsWalk P [] m) (sym at) there)

  module _ (P : Lists) where
    -- a term that begins so
    more_of : (seen : List (List ℕ)) (e : List ℕ × Postings) (rest : Lists) → IsWalk P seen (e ∷ rest) → begins front e.0 ≡ true → IsWalk P (seen ++ e.0 ∷ []) rest
    more_of seen e rest walk is = record {
      same = walk.same ∙ ap (λ b. seen ++ keys_of (cond b (e ∷ filter (λ d. begins front d.0) rest) (filter (λ d. begins front d.0) rest))) is ∙ sym (append_assoc seen (e.0 ∷ []) (terms_with front rest));
      rises = walk.rises.1;
      from = walk.from.1;
    }

    pub walk_more : (seen after : List (List ℕ)) (s rest : Lists) (e : List ℕ × Postings) → IsWalk P seen s → s ≡ e ∷ rest → begins front e.0 ≡ true → after ≡ seen ++ e.0 ∷ [] → IsWalk P after rest
    walk_more seen after s rest e walk at is more = subst (λ (ts : List (List ℕ)). IsWalk P ts rest) (sym more) (more_of seen e rest (subst (λ (m : Lists). IsWalk P seen m) at walk) is)

    -- a term that doesn't, and so none behind it
    none_of : (seen : List (List ℕ)) (e : List ℕ × Postings) (rest : Lists) → IsWalk P seen (e ∷ rest) → begins front e.0 ≡ false → seen ≡ terms_with front P
    none_of seen e rest walk none =
        let no_more : terms_with front (e ∷ rest) ≡ [] = ap keys_of (filter-no_keys (begins front) (e ∷ rest) (none, AllKeys-map (λ t. bytes_cmp e.0 t ≡ Less) (λ t. begins front t ≡ false) (λ t less. past front e.0 t walk.from.0 none less) rest walk.rises.0)) in
        sym (walk.same ∙ ap (λ ts. seen ++ ts) no_more ∙ append-nil seen)

    pub walk_past : (seen : List (List ℕ)) (s rest : Lists) (e : List ℕ × Postings) → IsWalk P seen s → s ≡ e ∷ rest → begins front e.0 ≡ false → seen ≡ terms_with front P
    walk_past seen s rest e walk at none = none_of seen e rest (subst (λ (m : Lists). IsWalk P seen m) at walk) none

    -- no lists are left
    pub walk_end : (seen : List (List ℕ)) (s : Lists) → IsWalk P seen s → s ≡ [] → seen ≡ terms_with front P
    walk_end seen s walk at = sym (walk.same ∙ ap (λ (m : Lists). seen ++ terms_with front m) at ∙ append-nil seen)

-- ---- what the documents have

had : (ds : List Document) (t : List ℕ) → is_some (inverted ds t) ≡ is_had ds t
had [] t = refl
had (d ∷ ds) t = elim (has t d) as (λ b. is_some (if_filled {E = ℕ × ℕ} (map (λ (d : Document). (d.0, weight_in d t)) (cond b (d ∷ filter (has t) ds) (filter (has t) ds)))) ≡ (b || is_had ds t)) [ true ↦ refl | false ↦ had ds t ]

module _ (P : Lists) (ds : List Document) (s : IsIncreasing bytes_cmp P) (lists : (t : List ℕ) → lookup bytes_cmp P t ≡ inverted ds t) where
  -- the terms of the lists
  pub all_terms : AreTerms ds (keys_of P)
  all_terms = record {
    order = ordered_from_IsIncreasing bytes_cmp P s;
    those = λ t. let key = has_key nat_list_cmp_total exact_bytes P t (is_had ds t) (sym (ap is_some (lists t) ∙ had ds t)) in (key.1, key.0);
  }

  -- those of them that begin so
  pub terms_begun : (front : List ℕ) → AreTermsFrom ds front (terms_with front P)
  terms_begun front =
      let with = filter (λ (e : List ℕ × Postings). begins front e.0) P in
      let found : (t : List ℕ) → (begins front t && is_had ds t) ≡ is_some (lookup bytes_cmp with t) =
      λ t. both (begins front t) (is_had ds t) (lookup bytes_cmp P t) (sym (ap is_some (lists t) ∙ had ds t)) ∙ sym (ap is_some (lookup-filter_keys exact_bytes (begins front) P t)) in
      record {
        order = ordered_from_IsIncreasing bytes_cmp with (IsIncreasing-filter bytes_cmp (λ e. begins front e.0) P s);
        those = λ t _. let key = has_key nat_list_cmp_total exact_bytes with t (begins front t && is_had ds t) (found t) in (key.1, key.0);
      }
    where
      both : (b c : Bool) (o : Option Postings) → c ≡ is_some o → (b && c) ≡ is_some (cond b o None)
      both true c o is = is
      both false c o is = refl

-- ---- prefixes that are no terms

-- nothing at all
pub from_nothing : (ds : List Document) (bytes : List ℕ) (terms : List (List ℕ)) → (length bytes == 0) ≡ true → AreTerms ds terms → AreTermsFrom ds (small bytes) terms
from_nothing ds [] terms h are = record { order = are.order; those = λ t _. are.those t }
from_nothing ds (b ∷ bytes) terms h are = absurd (let e : length (b ∷ bytes) ≡ 0 = eqb-true (length (b ∷ bytes)) 0 h in omega arith)

letters_of_front : (front t : List ℕ) → list_all is_ascii_alphanumeric t ≡ true → begins front t ≡ true → list_all is_ascii_alphanumeric front ≡ true
letters_of_front [] t all h = refl
letters_of_front (x ∷ front) [] all h = absurd (let bad : false ≡ true = h in cc)
letters_of_front (x ∷ front) (y ∷ t) all h =
    let same : x ≡ y = eqb-true x y (first_true (nat_eq x y) (begins front t) h) in
    let here : is_ascii_alphanumeric x ≡ true = ap is_ascii_alphanumeric same ∙ first_true (is_ascii_alphanumeric y) (list_all is_ascii_alphanumeric t) all in
    ap (λ b. b && list_all is_ascii_alphanumeric front) here ∙ letters_of_front front t (second_true (is_ascii_alphanumeric y) (list_all is_ascii_alphanumeric t) all) (second_true (nat_eq x y) (begins front t) h)

was_letter : (b : ℕ) → is_ascii_alphanumeric (to_ascii_lowercase b) ≡ true → is_ascii_alphanumeric b ≡ true
was_letter b h = grind (arith, nat_tests)

were_letters : (bytes : List ℕ) → list_all is_ascii_alphanumeric (small bytes) ≡ true → list_all is_ascii_alphanumeric bytes ≡ true
were_letters [] h = refl
were_letters (b ∷ bytes) h =
    let here = is_ascii_alphanumeric (to_ascii_lowercase b) in
    let rest = list_all is_ascii_alphanumeric (small bytes) in
    ap (λ x. x && list_all is_ascii_alphanumeric bytes) (was_letter b (first_true here rest h)) ∙ were_letters bytes (second_true here rest h)

all_letters : (t : List ℕ) → is_term t ≡ true → list_all is_ascii_alphanumeric t ≡ true
all_letters [] h = refl
all_letters (b ∷ t) h = h

-- a term begins with no other bytes
foreign : (bytes t : List ℕ) → (length bytes == 0) ≡ false → is_term bytes ≡ false → IsTerm t → begins (small bytes) t ≡ true → ⊥
foreign [] t filled no_term is h = cc
foreign (b ∷ bytes) t filled no_term is h =
    let all : is_term (b ∷ bytes) ≡ true = were_letters (b ∷ bytes) (letters_of_front (small (b ∷ bytes)) t (all_letters t is.lawful) h) in
    cc

pub none_foreign : (ds : List Document) (bytes : List ℕ) → (length bytes == 0) ≡ false → is_term bytes ≡ false → AreTermsFrom ds (small bytes) []
none_foreign ds bytes filled no_term = record {
  order = ordered_from_IsIncreasing {V = Postings} bytes_cmp [] tt;
  those = λ t is. (λ there. absurd (omega (arith, there.1)), λ h. absurd (foreign bytes t filled no_term is (first_true (begins (small bytes) t) (is_had ds t) h)));
}
