-- What several postings say of a document together.
use Rattle.std.proofs.Common.{◌≡◌, ℕ, ◌+◌, ◌-◌, ◌^◌, ◌≤◌, Bool, true, false, not, cond, min, ◌&&◌, ◌||◌, List, [], ◌∷◌, Option, Some, None, refl, sym, ap, ap₂, ◌∙◌, map, arith}
use Rattle.std.specs.List.{All, fold, sum_by, list_all, list_any, AllByRecursion}
use Rattle.std.specs.List.Sorted.{IsPermutation}
use Rattle.std.specs.Option.{unwrap_or, is_some, is_none}
use Rattle.std.specs.Ordering.{nat_cmp}
use Rattle.std.proofs.lemmas.Cmp.{nat_cmp_total}
use Rattle.std.proofs.lemmas.List.Folds.{fold_stays, fold-map, list_all-map}
use Rattle.std.proofs.lemmas.List.Sums.{sum_by-cons}
use Rattle.std.proofs.lemmas.List.Elements.{All-from_recursion, All-head}
use Rattle.std.proofs.lemmas.List.Sorted.{All-permutation, sum_by-IsPermutation, list_any-IsPermutation}
use Rattle.map_model.specs.Entries.{IsIncreasing, lookup}
use Rattle.map_model.specs.SetOperations.{difference, intersect, union}
use Rattle.map_model.proofs.Differences.{IsIncreasing-difference, lookup-difference}
use Rattle.map_model.proofs.Intersections.{IsIncreasing-intersect, of_both, lookup-intersect}
use Rattle.map_model.proofs.Lookups.{equal_lookups}
use Rattle.map_model.proofs.Unions.{united, lookup-union}
use Rattle.map_model.proofs.NatKeys.{nat_exact}
use Rattle.inverted_index.specs.Terms.{bytes_cmp}
use Rattle.inverted_index.specs.Documents.{IsIndex, documents_of, terms_in}
use Rattle.inverted_index.specs.Merging.{Lists, common, common_of, union_all, postings_at, sat}
use Rattle.inverted_index.specs.Queries.{all_of, any_of, having, has, if_filled, inverted, total_in, weight_in, without}
use Rattle.inverted_index.proofs.Documents.{lookup-terms_in, answered}

abbrev pub limit : ℕ
limit = 2 ^ 64 - 1

-- the weight of a document in postings, 0 where they haven't it
abbrev pub weight_at : ℕ → List (ℕ × ℕ) → ℕ
weight_at q p = unwrap_or (lookup nat_cmp p q) 0

abbrev pub has_at : ℕ → List (ℕ × ℕ) → Bool
has_at q p = is_some (lookup nat_cmp p q)

lookup-common : (ps : List (List (ℕ × ℕ))) (a : List (ℕ × ℕ)) (q : ℕ) → lookup nat_cmp (common a ps) q ≡ fold (λ o p. of_both sat o (lookup nat_cmp p q)) (lookup nat_cmp a q) ps
lookup-common [] a q = refl
lookup-common (p ∷ ps) a q = lookup-common ps (intersect nat_cmp sat a p) q ∙ ap (λ o. fold (λ o p. of_both sat o (lookup nat_cmp p q)) o ps) (lookup-intersect nat_exact sat a p q)

common_value : (q : ℕ) (ps : List (List (ℕ × ℕ))) (w : ℕ) → w ≤ limit
    → fold (λ o p. of_both sat o (lookup nat_cmp p q)) (Some w) ps ≡ cond (list_all (has_at q) ps) (Some (min (w + sum_by (weight_at q) ps) limit)) None
common_value q [] w low = ap Some (omega arith)
common_value q (p ∷ ps) w low =
    let S = sum_by (weight_at q) ps in
    elim (lookup nat_cmp p q) as (λ o. fold (λ o p. of_both sat o (lookup nat_cmp p q)) (of_both sat (Some w) o) ps ≡ cond (is_some o && list_all (has_at q) ps) (Some (min (w + (unwrap_or o 0 + S)) limit)) None) [
      | None ↦ fold_stays (λ o p. of_both sat o (lookup nat_cmp p q)) None (λ p. refl) ps
      | Some v ↦ common_value q ps (sat w v) (omega arith) ∙ ap (λ n. cond (list_all (has_at q) ps) (Some n) None) (let same : min (sat w v + S) limit ≡ min (w + (v + S)) limit = omega arith in same)
    ] ∙ ap (λ n. cond (list_all (has_at q) (p ∷ ps)) (Some (min (w + n) limit)) None) (sym (sum_by-cons (weight_at q) p ps))

-- postings that rise, with weights of 64 bits
abbrev pub Rises : List (ℕ × ℕ) → Type 0
Rises p = IsIncreasing nat_cmp p × ((q w : ℕ) → lookup nat_cmp p q ≡ Some w → w ≤ limit)

lookup-union_all : (ps : List (List (ℕ × ℕ))) (a : List (ℕ × ℕ)) (q : ℕ) → AllByRecursion Rises ps → lookup nat_cmp (union_all a ps) q ≡ fold (λ o p. united sat o (lookup nat_cmp p q)) (lookup nat_cmp a q) ps
lookup-union_all [] a q r = refl
lookup-union_all (p ∷ ps) a q r = lookup-union_all ps (union nat_cmp sat a p) q r.1 ∙ ap (λ o. fold (λ o p. united sat o (lookup nat_cmp p q)) o ps) (lookup-union nat_cmp_total nat_exact sat a p q r.0.0)

union_all_more : (q : ℕ) (ps : List (List (ℕ × ℕ))) (w : ℕ) → w ≤ limit
    → fold (λ o p. united sat o (lookup nat_cmp p q)) (Some w) ps ≡ Some (min (w + sum_by (weight_at q) ps) limit)
union_all_more q [] w low = ap Some (omega arith)
union_all_more q (p ∷ ps) w low =
    let S = sum_by (weight_at q) ps in
    elim (lookup nat_cmp p q) as (λ o. fold (λ o p. united sat o (lookup nat_cmp p q)) (united sat (Some w) o) ps ≡ Some (min (w + (unwrap_or o 0 + S)) limit)) [
      | None ↦ union_all_more q ps w low ∙ ap Some (let same : min (w + S) limit ≡ min (w + (0 + S)) limit = omega arith in same)
      | Some v ↦ union_all_more q ps (sat w v) (omega arith) ∙ ap Some (let same : min (sat w v + S) limit ≡ min (w + (v + S)) limit = omega arith in same)
    ] ∙ ap (λ n. Some (min (w + n) limit)) (sym (sum_by-cons (weight_at q) p ps))

union_all_value : (q : ℕ) (ps : List (List (ℕ × ℕ))) → AllByRecursion Rises ps
    → fold (λ o p. united sat o (lookup nat_cmp p q)) None ps ≡ cond (list_any (has_at q) ps) (Some (min (sum_by (weight_at q) ps) limit)) None
union_all_value q [] r = refl
union_all_value q (p ∷ ps) r =
    let S = sum_by (weight_at q) ps in
    elim (lookup nat_cmp p q) as (λ o. lookup nat_cmp p q ≡ o → fold (λ o p. united sat o (lookup nat_cmp p q)) (united sat None o) ps ≡ cond (is_some o || list_any (has_at q) ps) (Some (min (unwrap_or o 0 + S) limit)) None) [
      | None ↦ λ _. union_all_value q ps r.1 ∙ ap (λ n. cond (list_any (has_at q) ps) (Some n) None) (let same : min S limit ≡ min (0 + S) limit = omega arith in same)
      | Some v ↦ λ is. union_all_more q ps v (r.0.1 q v is)
    ] refl ∙ ap (λ n. cond (list_any (has_at q) (p ∷ ps)) (Some (min n limit)) None) (sym (sum_by-cons (weight_at q) p ps))

-- two functions that agree
sum_alike : {X : Type 0} (f g : X → ℕ) → ((x : X) → f x ≡ g x) → (xs : List X) → sum_by f xs ≡ sum_by g xs
sum_alike f g same [] = refl
sum_alike f g same (x ∷ xs) = sum_by-cons f x xs ∙ ap₂ (λ a b. a + b) (same x) (sum_alike f g same xs) ∙ sym (sum_by-cons g x xs)

all_alike : {X : Type 0} (f g : X → Bool) → ((x : X) → f x ≡ g x) → (xs : List X) → list_all f xs ≡ list_all g xs
all_alike f g same [] = refl
all_alike f g same (x ∷ xs) = ap₂ (λ a b. a && b) (same x) (all_alike f g same xs)

any_alike : {X : Type 0} (f g : X → Bool) → ((x : X) → f x ≡ g x) → (xs : List X) → list_any f xs ≡ list_any g xs
any_alike f g same [] = refl
any_alike f g same (x ∷ xs) = ap₂ (λ a b. a || b) (same x) (any_alike f g same xs)

list_any-map : {X Y : Type 0} (p : X → Bool) (h : Y → X) (ys : List Y) → list_any p (map h ys) ≡ list_any (λ y. p (h y)) ys
list_any-map p h [] = refl
list_any-map p h (y ∷ ys) = ap (λ b. p (h y) || b) (list_any-map p h ys)

list_all-not_any : {X : Type 0} (p : X → Bool) (xs : List X) → list_all p xs ≡ not (list_any (λ x. not (p x)) xs)
list_all-not_any p [] = refl
list_all-not_any p (x ∷ xs) = elim (p x) as (λ b. (b && list_all p xs) ≡ not (not b || list_any (λ y. not (p y)) xs)) [ true ↦ list_all-not_any p xs | false ↦ refl ]

list_all-IsPermutation : {X : Type 0} (p : X → Bool) (xs ys : List X) → IsPermutation xs ys → list_all p ys ≡ list_all p xs
list_all-IsPermutation p xs ys h = list_all-not_any p ys ∙ ap not (sym (list_any-IsPermutation (λ x. not (p x)) xs ys h)) ∙ sym (list_all-not_any p xs)

-- a weight that is absent where the document is unknown
known_only : (known : Bool) (o : Option ℕ) → ((w : ℕ) → o ≡ Some w → known ≡ true) → o ≡ cond known o None
known_only true o h = refl
known_only false None h = refl
known_only false (Some w) h = absurd (let bad : false ≡ true = h w refl in cc)

some_value : (o : Option ℕ) → o ≡ cond (is_some o) (Some (unwrap_or o 0)) None
some_value None = refl
some_value (Some w) = refl

module _ (D : List (ℕ × ℕ)) (P : Lists) (index : IsIndex D P) where
  pub rises_at : (t : List ℕ) → Rises (postings_at P t)
  rises_at t = elim (lookup bytes_cmp P t) as (λ o. lookup bytes_cmp P t ≡ o → Rises (unwrap_or o [])) [
    | None ↦ λ _. (tt, λ q w is. absurd (let bad : ◌≡◌ {A = Option ℕ} None (Some w) = is in cc))
    | Some m ↦ λ is. ((index.are_postings t m is).rises, (index.are_postings t m is).fit)
  ] refl

  pub all_rise : (terms : List (List ℕ)) → AllByRecursion Rises (map (postings_at P) terms)
  all_rise [] = tt
  all_rise (t ∷ terms) = (rises_at t, all_rise terms)

  pub known_at : (t : List ℕ) (q w : ℕ) → lookup nat_cmp (postings_at P t) q ≡ Some w → is_some (lookup nat_cmp D q) ≡ true
  known_at t q w = elim (lookup bytes_cmp P t) as (λ o. lookup bytes_cmp P t ≡ o → lookup nat_cmp (unwrap_or o []) q ≡ Some w → is_some (lookup nat_cmp D q) ≡ true) [
    | None ↦ λ _ is. absurd (let bad : ◌≡◌ {A = Option ℕ} None (Some w) = is in cc)
    | Some m ↦ λ has is. (index.are_postings t m has).are_known q w is
  ] refl

  -- postings are what known documents have in common with them
  from_known : (t : List ℕ) → intersect nat_cmp sat D (postings_at P t) ≡ postings_at P t
  from_known t = equal_lookups nat_cmp_total nat_exact (intersect nat_cmp sat D (postings_at P t)) (postings_at P t) (IsIncreasing-intersect nat_cmp sat D (postings_at P t) index.known_rise) (rises_at t).0 (λ q.
      lookup-intersect nat_exact sat D (postings_at P t) q
      ∙ at_known (lookup nat_cmp D q) (lookup nat_cmp (postings_at P t) q) (known_at t q) (index.zero_weights q) ((rises_at t).1 q))
    where
      at_known : (o p : Option ℕ) → ((w : ℕ) → p ≡ Some w → is_some o ≡ true) → ((w : ℕ) → o ≡ Some w → w ≡ 0) → ((w : ℕ) → p ≡ Some w → w ≤ limit) → of_both sat o p ≡ p
      at_known None None known zero fit = refl
      at_known None (Some w) known zero fit = absurd (let bad : false ≡ true = known w refl in cc)
      at_known (Some v) None known zero fit = refl
      at_known (Some v) (Some w) known zero fit =
          let none : v ≡ 0 = zero v refl in
          let low : w ≤ limit = fit w refl in
          ap Some (omega arith)

  abbrev IsKept : List (ℕ × ℕ) → Type 0
  IsKept p = intersect nat_cmp sat D p ≡ p

  all_kept : (terms : List (List ℕ)) → AllByRecursion IsKept (map (postings_at P) terms)
  all_kept [] = tt
  all_kept (t ∷ terms) = (from_known t, all_kept terms)

  pub common_from_first : (terms : List (List ℕ)) (ps : List (List (ℕ × ℕ))) → IsPermutation (map (postings_at P) terms) ps → common_of D ps ≡ common D ps
  common_from_first terms ps moved = first ps (All-permutation IsKept (map (postings_at P) terms) ps moved (All-from_recursion IsKept (map (postings_at P) terms) (all_kept terms)))
    where
      first : (qs : List (List (ℕ × ℕ))) → All IsKept qs → common_of D qs ≡ common D qs
      first [] all = refl
      first (q ∷ qs) all = ap (λ x. common x qs) (sym (All-head IsKept q qs all))

  -- what a document has of a term
  has_term : (q : ℕ) (t : List ℕ) → has t (q, terms_in P q) ≡ has_at q (postings_at P t)
  has_term q t = ap is_some (lookup-terms_in P q t index.terms_rise)

  weighs_term : (q : ℕ) (t : List ℕ) → weight_in (q, terms_in P q) t ≡ weight_at q (postings_at P t)
  weighs_term q t = ap (λ o. unwrap_or o 0) (lookup-terms_in P q t index.terms_rise)

  total_terms : (q : ℕ) (terms : List (List ℕ)) → sum_by (weight_in (q, terms_in P q)) terms ≡ sum_by (weight_at q) (map (postings_at P) terms)
  total_terms q terms = sum_alike (weight_in (q, terms_in P q)) (λ t. weight_at q (postings_at P t)) (weighs_term q) terms ∙ sym (fold-map (λ a p. a + weight_at q p) (postings_at P) 0 terms)

  pub having-postings : (t : List ℕ) → postings_at P t ≡ having (documents_of D P) t
  having-postings t = answered (has t) (λ d. weight_in d t) P D (postings_at P t) index.known_rise (rises_at t).0 (λ q.
      known_only (is_some (lookup nat_cmp D q)) (lookup nat_cmp (postings_at P t) q) (known_at t q)
      ∙ ap (λ o. cond (is_some (lookup nat_cmp D q)) o None) (some_value (lookup nat_cmp (postings_at P t) q) ∙ sym (ap₂ (λ b w. cond b (Some w) None) (has_term q t) (weighs_term q t))))

  pub without-difference : (s t : List ℕ) → difference nat_cmp (postings_at P s) (postings_at P t) ≡ without (documents_of D P) s t
  without-difference s t = answered (λ d. has s d && not (has t d)) (λ d. weight_in d s) P D (difference nat_cmp (postings_at P s) (postings_at P t)) index.known_rise (IsIncreasing-difference nat_cmp (postings_at P s) (postings_at P t) (rises_at s).0) (λ q.
      lookup-difference nat_exact (postings_at P s) (postings_at P t) q
      ∙ known_only (is_some (lookup nat_cmp D q)) (left q) (λ w is. known_at s q w (first (is_none (lookup nat_cmp (postings_at P t) q)) (lookup nat_cmp (postings_at P s) q) w is))
      ∙ ap (λ o. cond (is_some (lookup nat_cmp D q)) o None) (differs (lookup nat_cmp (postings_at P s) q) (lookup nat_cmp (postings_at P t) q) ∙ sym (ap₂ (λ b w. cond b (Some w) None) (ap₂ (λ a b. a && not b) (has_term q s) (has_term q t)) (weighs_term q s))))
    where
      left : ℕ → Option ℕ
      left q = cond (is_none (lookup nat_cmp (postings_at P t) q)) (lookup nat_cmp (postings_at P s) q) None

      first : (b : Bool) (o : Option ℕ) (w : ℕ) → cond b o None ≡ Some w → o ≡ Some w
      first true o w is = is
      first false o w is = absurd (let bad : ◌≡◌ {A = Option ℕ} None (Some w) = is in cc)

      differs : (o p : Option ℕ) → cond (is_none p) o None ≡ cond (is_some o && not (is_some p)) (Some (unwrap_or o 0)) None
      differs None None = refl
      differs None (Some v) = refl
      differs (Some w) None = refl
      differs (Some w) (Some v) = refl

  pub all_of-common : (terms : List (List ℕ)) (ps : List (List (ℕ × ℕ))) → IsPermutation (map (postings_at P) terms) ps → IsIncreasing nat_cmp (common D ps) → common D ps ≡ all_of (documents_of D P) terms
  all_of-common terms ps moved rises = answered (λ d. list_all (λ t. has t d) terms) (λ d. total_in d terms) P D (common D ps) index.known_rise rises (λ q.
      lookup-common ps D q
      ∙ start q (lookup nat_cmp D q) (index.zero_weights q)
      ∙ ap (λ o. cond (is_some (lookup nat_cmp D q)) o None) (ap₂ (λ b n. cond b (Some (min n limit)) None)
      (list_all-IsPermutation (has_at q) (map (postings_at P) terms) ps moved ∙ list_all-map (has_at q) (postings_at P) terms ∙ all_alike (λ t. has_at q (postings_at P t)) (λ t. has t (q, terms_in P q)) (λ t. sym (has_term q t)) terms)
      (sum_by-IsPermutation (weight_at q) (map (postings_at P) terms) ps moved ∙ sym (total_terms q terms))))
    where
      start : (q : ℕ) (o : Option ℕ) → ((w : ℕ) → o ≡ Some w → w ≡ 0) → fold (λ o p. of_both sat o (lookup nat_cmp p q)) o ps ≡ cond (is_some o) (cond (list_all (has_at q) ps) (Some (min (sum_by (weight_at q) ps) limit)) None) None
      start q None h = fold_stays (λ o p. of_both sat o (lookup nat_cmp p q)) None (λ p. refl) ps
      start q (Some w) h = ap (λ n. fold (λ o p. of_both sat o (lookup nat_cmp p q)) (Some n) ps) (h w refl) ∙ common_value q ps 0 (omega arith) ∙ ap (λ n. cond (list_all (has_at q) ps) (Some (min n limit)) None) (let same : 0 + sum_by (weight_at q) ps ≡ sum_by (weight_at q) ps = omega arith in same)

  pub any_of-union_all : (terms : List (List ℕ)) → IsIncreasing nat_cmp (union_all [] (map (postings_at P) terms)) → union_all [] (map (postings_at P) terms) ≡ any_of (documents_of D P) terms
  any_of-union_all terms rises = answered (λ d. list_any (λ t. has t d) terms) (λ d. total_in d terms) P D (union_all [] (map (postings_at P) terms)) index.known_rise rises (λ q.
      let ps = map (postings_at P) terms in
      lookup-union_all ps [] q (all_rise terms)
      ∙ union_all_value q ps (all_rise terms)
      ∙ known_only (is_some (lookup nat_cmp D q)) (cond (list_any (has_at q) ps) (Some (min (sum_by (weight_at q) ps) limit)) None) (λ w is. known_any q terms (chosen (list_any (has_at q) ps) (min (sum_by (weight_at q) ps) limit) w is))
      ∙ ap (λ o. cond (is_some (lookup nat_cmp D q)) o None) (ap₂ (λ b n. cond b (Some (min n limit)) None)
      (list_any-map (has_at q) (postings_at P) terms ∙ any_alike (λ t. has_at q (postings_at P t)) (λ t. has t (q, terms_in P q)) (λ t. sym (has_term q t)) terms)
      (sym (total_terms q terms))))
    where
      chosen : (b : Bool) (n w : ℕ) → cond b (Some n) None ≡ Some w → b ≡ true
      chosen true n w is = refl
      chosen false n w is = absurd (let bad : ◌≡◌ {A = Option ℕ} None (Some w) = is in cc)

      known_any : (q : ℕ) (some : List (List ℕ)) → list_any (has_at q) (map (postings_at P) some) ≡ true → is_some (lookup nat_cmp D q) ≡ true
      known_any q [] is = absurd (let bad : false ≡ true = is in cc)
      known_any q (t ∷ some) is =
          elim (lookup nat_cmp (postings_at P t) q) as (λ o. lookup nat_cmp (postings_at P t) q ≡ o → (is_some o || list_any (has_at q) (map (postings_at P) some)) ≡ true → is_some (lookup nat_cmp D q) ≡ true) [
            | None ↦ λ _ more. known_any q some more
            | Some w ↦ λ here _. known_at t q w here
          ] refl is

  -- the postings of each term
  pub inverted_lists : (t : List ℕ) → lookup bytes_cmp P t ≡ inverted (documents_of D P) t
  inverted_lists t = filled (lookup bytes_cmp P t) refl ∙ ap if_filled (having-postings t)
    where
      filled : (o : Option (List (ℕ × ℕ))) → lookup bytes_cmp P t ≡ o → o ≡ if_filled (postings_at P t)
      filled None is = rw is refl
      filled (Some []) is = absurd ((index.are_postings t [] is).filled refl)
      filled (Some (a ∷ b)) is = rw is refl
