-- What the first documents of a term take: how many postings there are, and how high the maps that keep them.
use Rattle.std.proofs.Common.{◌≡◌, ℕ, suc, ◌+◌, ◌*◌, ◌<◌, ◌≤◌, Bool, true, false, cond, List, [], ◌∷◌, Option, Some, None, length, map, refl, sym, ap, ◌∙◌, arith, mul-le-mul_left}
use Rattle.std.specs.declared.cmp.Ordering.TheVariants.{Less, Equal, Greater}
use Rattle.std.specs.List.{filter, cons_option}
use Rattle.std.specs.Option.{is_some, option_map}
use Rattle.std.specs.Ordering.{is_eq, is_ne, nat_cmp}
use Rattle.std.proofs.lemmas.Cmp.{nat_cmp_total, nat_list_cmp_total}
use Rattle.map_model.specs.Balance.{HeightLaw, IsAtMostLevels, weight}
use Rattle.map_model.specs.Entries.{IsIncreasing, drop_key, lookup}
use Rattle.map_model.proofs.Heights.{height_at_most, levels_of_part}
use Rattle.map_model.proofs.Lengths.{length-filter_le}
use Rattle.map_model.proofs.Lookups.{first_found, lookup-behind}
use Rattle.map_model.proofs.NatKeys.{nat_exact}
use Rattle.inverted_index.specs.Costs.{posting_count, removal_cost, top_cost}
use Rattle.inverted_index.specs.Documents.{IsIndex, IsPostings, documents_of, terms_in}
use Rattle.inverted_index.specs.Merging.{Lists}
use Rattle.inverted_index.specs.Queries.{Document, has, having, weight_in}
use Rattle.inverted_index.specs.Terms.{bytes_cmp}

-- ---- how many postings there are

-- a document's terms beside one list of postings more
length-one_list : (l : List ℕ × List (ℕ × ℕ)) (P : Lists) (q : ℕ) → length (terms_in (l ∷ P) q) ≡ cond (is_some (lookup nat_cmp l.1 q)) (suc (length (terms_in P q))) (length (terms_in P q))
length-one_list l P q = elim (lookup nat_cmp l.1 q) as (λ o. length (cons_option (option_map (λ w. (l.0, w)) o) (terms_in P q)) ≡ cond (is_some o) (suc (length (terms_in P q))) (length (terms_in P q))) [ None ↦ refl | Some w ↦ refl ]

no_fewer : (l : List ℕ × List (ℕ × ℕ)) (P : Lists) (D : List (ℕ × ℕ)) → posting_count (documents_of D P) ≤ posting_count (documents_of D (l ∷ P))
no_fewer l P [] = omega arith
no_fewer l P (e ∷ D) =
    let rest = no_fewer l P D in
    elim (is_some (lookup nat_cmp l.1 e.0)) as (λ b. length (terms_in (l ∷ P) e.0) ≡ cond b (suc (length (terms_in P e.0))) (length (terms_in P e.0)) → length (terms_in P e.0) + posting_count (documents_of D P) ≤ length (terms_in (l ∷ P) e.0) + posting_count (documents_of D (l ∷ P))) [
      | true ↦ λ is. omega (arith, rest, is)
      | false ↦ λ is. omega (arith, rest, is)
    ] (length-one_list l P e.0)

-- a known document that a list of postings has is a posting more
one_more : (l : List ℕ × List (ℕ × ℕ)) (P : Lists) (D : List (ℕ × ℕ)) (q : ℕ) → is_some (lookup nat_cmp D q) ≡ true → is_some (lookup nat_cmp l.1 q) ≡ true → suc (posting_count (documents_of D P)) ≤ posting_count (documents_of D (l ∷ P))
one_more l P [] q known is_there = cc
one_more l P (e ∷ D) q known is_there =
    let here = length-one_list l P e.0 in
    let later : is_some (lookup nat_cmp D q) ≡ true → suc (length (terms_in P e.0) + posting_count (documents_of D P)) ≤ length (terms_in (l ∷ P) e.0) + posting_count (documents_of D (l ∷ P)) =
    λ rest. let more = one_more l P D q rest is_there in let least = no_fewer l P (e ∷ []) in omega (arith, more, least) in
    elim (nat_cmp e.0 q) as (λ o. nat_cmp e.0 q ≡ o → is_some (cond (is_eq o) (Some e.1) (lookup nat_cmp D q)) ≡ true → suc (length (terms_in P e.0) + posting_count (documents_of D P)) ≤ length (terms_in (l ∷ P) e.0) + posting_count (documents_of D (l ∷ P))) [
      | Less ↦ λ _ rest. later rest
      | Equal ↦ λ ties _.
          let same : e.0 ≡ q = nat_exact e.0 q ties in
          let has_it : is_some (lookup nat_cmp l.1 e.0) ≡ true = rw same is_there in
          let longer : length (terms_in (l ∷ P) e.0) ≡ suc (length (terms_in P e.0)) = here ∙ ap (λ b. cond b (suc (length (terms_in P e.0))) (length (terms_in P e.0))) has_it in
          let rest = no_fewer l P D in
          omega (arith, longer, rest)
      | Greater ↦ λ _ rest. later rest
    ] refl known

one_list : (t : List ℕ) (m : List (ℕ × ℕ)) (P : Lists) (D : List (ℕ × ℕ)) → IsPostings D m → suc (posting_count (documents_of D P)) ≤ posting_count (documents_of D ((t, m) ∷ P))
one_list t [] P D are = absurd (are.filled refl)
one_list t (e ∷ m) P D are =
    let found = first_found nat_cmp_total e m in
    one_more (t, e ∷ m) P D e.0 (are.are_known e.0 e.1 found) (ap is_some found)

-- no more terms than postings
terms_few : (D : List (ℕ × ℕ)) (P : Lists) → IsIncreasing bytes_cmp P → ((t : List ℕ) (m : List (ℕ × ℕ)) → lookup bytes_cmp P t ≡ Some m → IsPostings D m) → length P ≤ posting_count (documents_of D P)
terms_few D [] rises are = omega arith
terms_few D (l ∷ P) rises are =
    let more = one_list l.0 l.1 P D (are l.0 l.1 (first_found nat_list_cmp_total l P)) in
    let rest = terms_few D P rises.1 (λ t m is. are t m (behind_first t m is)) in
    omega (arith, more, rest)
  where
    behind_first : (t : List ℕ) (m : List (ℕ × ℕ)) → lookup bytes_cmp P t ≡ Some m → lookup bytes_cmp (l ∷ P) t ≡ Some m
    behind_first t m is =
        elim (bytes_cmp l.0 t) as (λ o. bytes_cmp l.0 t ≡ o → cond (is_eq o) (Some l.1) (lookup bytes_cmp P t) ≡ Some m) [
          | Less ↦ λ _. is
          | Equal ↦ λ ties. absurd (let bad : ◌≡◌ {A = Option (List (ℕ × ℕ))} None (Some m) = sym (lookup-behind nat_list_cmp_total l P t rises ties) ∙ is in cc)
          | Greater ↦ λ _. is
        ] refl

filled : (weights : List (List ℕ × ℕ)) (t : List ℕ) → is_some (lookup bytes_cmp weights t) ≡ true → 1 ≤ length weights
filled [] t found = cc
filled (w ∷ weights) t found = omega arith

abbrev picked_part : List ℕ → List Document → List (ℕ × ℕ)
picked_part t = map (λ d. (d.0, weight_in d t))

-- no more documents have a term than there are postings
holders_few : (ds : List Document) (t : List ℕ) → length (having ds t) ≤ posting_count ds
holders_few [] t = omega arith
holders_few (d ∷ ds) t =
    let rest : length (picked_part t (filter (has t) ds)) ≤ posting_count ds = holders_few ds t in
    elim (has t d) as (λ b. has t d ≡ b → length (picked_part t (cond b (d ∷ filter (has t) ds) (filter (has t) ds))) ≤ length d.1 + posting_count ds) [
      | true ↦ λ is. let some = filled d.1 t is in omega (arith, rest, some)
      | false ↦ λ _. omega (arith, rest)
    ] refl

-- ---- what removals take

-- a map of no more entries is no higher
lower : (count most low height : ℕ) → HeightLaw 64 low count → count ≤ most → IsAtMostLevels 64 height (most + 1) → low ≤ height
lower count most low height law few levels = height_at_most 64 height low count (omega arith) law (levels_of_part 64 height (count + 1) (most + 1) (omega (arith, few)) levels)

-- no more are left behind a removal
pub fewer : (before after whole : List (ℕ × ℕ)) (doc : ℕ) → after ≡ drop_key nat_cmp before doc → length before ≤ length whole → length after ≤ length whole
fewer before after whole doc is few = let left = length-filter_le (λ e. is_ne (nat_cmp e.0 doc)) before in rw is (omega (arith, left, few))

-- the steps of one document more: of the search for it and of its removal
pub one_hit : (place low height count most start before found after : ℕ) → HeightLaw 64 low count → count ≤ most → IsAtMostLevels 64 height (most + 1)
    → before ≤ start + place * removal_cost height → found ≤ before + (3 * low + 129) → after ≤ found + (64 * (low + 1) * (64 + 2) + 9)
    → after ≤ start + (place + 1) * removal_cost height
one_hit place low height count most start before found after law few levels so_far search removal =
    let less = lower count most low height law few levels in
    omega (arith, less, so_far, search, removal)

-- the steps of fewer documents than were asked for, and of a search
pub a_search : (k place low height count most start before found : ℕ) → place < k → HeightLaw 64 low count → count ≤ most → IsAtMostLevels 64 height (most + 1)
    → before ≤ start + place * removal_cost height → found ≤ before + (3 * low + 129)
    → found ≤ start + k * removal_cost height
a_search k place low height count most start before found not_yet law few levels so_far search =
    let less = lower count most low height law few levels in
    let more : place + 1 ≤ k = omega (arith, not_yet) in
    let scaled = mul-le-mul_left (removal_cost height) more in
    omega (arith, less, so_far, search, scaled)

-- the steps of all documents that were asked for
pub all_hits : (k place height start done : ℕ) → place ≤ k → done ≤ start + place * removal_cost height → done ≤ start + k * removal_cost height
all_hits k place height start done up so_far = let scaled = mul-le-mul_left (removal_cost height) up in omega (arith, so_far, scaled)

-- ---- what an index takes

module _ (D : List (ℕ × ℕ)) (P : Lists) (ds : List Document) (index : IsIndex D P) (view : documents_of D P ≡ ds) where
  -- the search for a term
  pub term_cost : (low height start found : ℕ) → HeightLaw 64 low (length P) → IsAtMostLevels 64 height (posting_count ds + 1) → found ≤ start + (low + 9) → found ≤ start + (height + 9)
  term_cost low height start found law levels search =
      let few : length P ≤ posting_count ds = rw (← view) (terms_few D P index.terms_rise index.are_postings) in
      let less = lower (length P) (posting_count ds) low height law few levels in
      omega (arith, less, search)

  -- the search and the first documents that have it
  pub first_cost : (k low height start found done : ℕ) (t : List ℕ) (m : List (ℕ × ℕ)) → m ≡ having ds t → HeightLaw 64 low (length P) → IsAtMostLevels 64 height (posting_count ds + 1)
      → found ≤ start + (low + 9) → (IsAtMostLevels 64 height (weight m) → done ≤ found + k * removal_cost height) → done ≤ start + top_cost k height
  first_cost k low height start found done t m is law levels search firsts =
      let before = term_cost low height start found law levels search in
      let few : length m ≤ posting_count ds = rw is (holders_few ds t) in
      let rest = firsts (levels_of_part 64 height (length m + 1) (posting_count ds + 1) (omega (arith, few)) levels) in
      omega (arith, before, rest)
