-- The least numbers of edges of walks, one level after another.
use Rattle.std.proofs.Common.{◌≡◌, ◌∙◌, ◌+◌, ◌<◌, ◌≤◌, ◌&&◌, ◌||◌, ◌==◌, ◌∷◌, [], ℕ, zero, suc, Bool, true, false, not, cond, List, None, Some, length, refl, sym, ap, subst, inl, inr, add-zero, add-suc, arith}
use Rattle.std.specs.List.{filter, list_any}
use Rattle.std.specs.Option.{is_none, is_some, option_or}
use Rattle.std.proofs.lemmas.Bool.{and_from, and_parts, cases_lt, false≢true, or_right}
use Rattle.std.proofs.lemmas.Map.Views.{exact_unsigned_eq}
use Rattle.std.proofs.lemmas.Option.{none-some, same_Some}
use Rattle.map_model.proofs.Lengths.{length-filter_le}
use Rattle.graph_snap.specs.Walks.{least, walk}

-- ---- tests of lists

pub same_bool : (a b : Bool) → (a ≡ true → b ≡ true) → (b ≡ true → a ≡ true) → a ≡ b
same_bool true b f g = sym (f refl)
same_bool false true f g = g refl
same_bool false false f g = refl

-- each test that x passes is passed in the list
abbrev pub Has : {X : Type 0} → List X → X → Type 0
Has {X} xs x = (q : X → Bool) → q x ≡ true → list_any q xs ≡ true

pub any_found : {X : Type 0} (p : X → Bool) (xs : List X) → list_any p xs ≡ true → (x : X) × Has xs x × (p x ≡ true)
any_found p [] h = absurd (false≢true h)
any_found {X} p (x ∷ xs) h =
    elim (p x) as (λ b. p x ≡ b → (b || list_any p xs) ≡ true → (y : X) × Has (x ∷ xs) y × (p y ≡ true)) [
      | true ↦ λ is _. (x, (λ q passes. ap (λ b. b || list_any q xs) passes), is)
      | false ↦ λ _ h. let r = any_found p xs h in (r.0, (λ q passes. or_right (q x) (list_any q xs) (r.1 q passes)), r.2)
    ] refl h

-- of two tests the wider one keeps more where an element passes it alone
keeps_no_less : {X : Type 0} (p q : X → Bool) (xs : List X) → ((x : X) → p x ≡ true → q x ≡ true) → length (filter p xs) ≤ length (filter q xs)
keeps_no_less p q [] wider = omega arith
keeps_no_less p q (x ∷ xs) wider =
    let rest = keeps_no_less p q xs wider in
    elim (p x) as (λ a. p x ≡ a → length (cond a (x ∷ filter p xs) (filter p xs)) ≤ length (cond (q x) (x ∷ filter q xs) (filter q xs))) [
      | true ↦ λ is. rw (wider x is) (omega (arith, rest))
      | false ↦ λ _. elim (q x) as (λ b. length (filter p xs) ≤ length (cond b (x ∷ filter q xs) (filter q xs))) [ true ↦ omega (arith, rest) | false ↦ rest ]
    ] refl

keeps_less : {X : Type 0} (p q : X → Bool) (xs : List X) → ((x : X) → p x ≡ true → q x ≡ true) → list_any (λ x. q x && not (p x)) xs ≡ true → length (filter p xs) < length (filter q xs)
keeps_less p q [] wider h = absurd (false≢true h)
keeps_less p q (x ∷ xs) wider h =
    let rest = keeps_no_less p q xs wider in
    elim (p x) as (λ a. p x ≡ a → ((q x && not a) || list_any (λ y. q y && not (p y)) xs) ≡ true → length (cond a (x ∷ filter p xs) (filter p xs)) < length (cond (q x) (x ∷ filter q xs) (filter q xs))) [
      | true ↦ λ is. elim (q x) as (λ b. q x ≡ b → ((b && false) || list_any (λ y. q y && not (p y)) xs) ≡ true → suc (length (filter p xs)) < length (cond b (x ∷ filter q xs) (filter q xs))) [
        | true ↦ λ _ h. let more = keeps_less p q xs wider h in omega (arith, more)
        | false ↦ λ no _. absurd (false≢true (sym no ∙ wider x is))
      ] refl
      | false ↦ λ _. elim (q x) as (λ b. ((b && true) || list_any (λ y. q y && not (p y)) xs) ≡ true → length (filter p xs) < length (cond b (x ∷ filter q xs) (filter q xs))) [
        | true ↦ λ _. omega (arith, rest)
        | false ↦ λ h. keeps_less p q xs wider h
      ]
    ] refl h

-- ---- the least number that passes

pub none_left : (b : Bool) (n : ℕ) → cond b (Some n) None ≡ None → b ≡ false
none_left true n h = absurd (none-some n (sym h))
none_left false n h = refl

some_left : (b : Bool) (n d : ℕ) → cond b (Some n) None ≡ Some d → (b ≡ true) × (n ≡ d)
some_left true n d h = (refl, same_Some n d h)
some_left false n d h = absurd (none-some d h)

pub least_none : (p : ℕ → Bool) (n k : ℕ) → least p n ≡ None → k < n → p k ≡ false
least_none p zero k h lt = absurd (let none : ⊥ = omega (arith, lt) in none)
least_none p (suc n) k h lt =
    elim (least p n) as (λ o. least p n ≡ o → option_or o (cond (p n) (Some n) None) ≡ None → p k ≡ false) [
      | None ↦ λ none h. elim (cases_lt k n) [ inl low ↦ least_none p n k none low | inr high ↦ let same : n ≡ k = omega (arith, lt, high) in subst (λ m. p m ≡ false) same (none_left (p n) n h) ]
      | Some c ↦ λ _ h. absurd (none-some c (sym h))
    ] refl h

-- d is the least number that passes, and is below n
pub record IsLeast (p : ℕ → Bool) (n d : ℕ) : Type 0 where
  pub below : d < n
  pub passes : p d ≡ true
  pub first : (k : ℕ) → k < d → p k ≡ false

pub least_some : (p : ℕ → Bool) (n d : ℕ) → least p n ≡ Some d → IsLeast p n d
least_some p zero d h = absurd (none-some d h)
least_some p (suc n) d h =
    elim (least p n) as (λ o. least p n ≡ o → option_or o (cond (p n) (Some n) None) ≡ Some d → IsLeast p (suc n) d) [
      | None ↦ λ none h. let r = some_left (p n) n d h in subst (λ m. IsLeast p (suc n) m) r.1 (record { below = omega arith; passes = r.0; first = λ k lt. least_none p n k none lt })
      | Some c ↦ λ some h. let r = least_some p n c some in let below = r.below in subst (λ m. IsLeast p (suc n) m) (same_Some c d h) (record { below = omega (arith, below); passes = r.passes; first = r.first })
    ] refl h

pub least_is : (p : ℕ → Bool) (n d : ℕ) → d < n → p d ≡ true → ((k : ℕ) → k < d → p k ≡ false) → least p n ≡ Some d
least_is p n d lt passes first =
    elim (least p n) as (λ o. least p n ≡ o → o ≡ Some d) [
      | None ↦ λ none. absurd (false≢true (sym (least_none p n d none lt) ∙ passes))
      | Some c ↦ λ some. let r = least_some p n c some in elim (cases_lt c d) [
        | inl low ↦ absurd (false≢true (sym (first c low) ∙ r.passes))
        | inr high ↦ elim (cases_lt d c) [
          | inl low ↦ absurd (false≢true (sym (r.first d low) ∙ passes))
          | inr low ↦ ap Some (omega (arith, low, high))
        ]
      ]
    ] refl

least_kept : (p : ℕ → Bool) (n : ℕ) → is_some (least p n) ≡ true → is_some (least p (suc n)) ≡ true
least_kept p n h = elim (least p n) as (λ o. is_some o ≡ true → is_some (option_or o (cond (p n) (Some n) None)) ≡ true) [ None ↦ λ h. absurd (false≢true h) | Some c ↦ λ _. refl ] h

least_more : (p : ℕ → Bool) (n : ℕ) → p n ≡ true → is_some (least p (suc n)) ≡ true
least_more p n h = elim (least p n) as (λ o. is_some (option_or o (cond (p n) (Some n) None)) ≡ true) [ None ↦ rw h refl | Some c ↦ refl ]

-- ---- levels

module _ (g : List (ℕ × ℕ)) (s : ℕ) where
  -- the vertices with a walk of d edges and none of fewer
  pub record AtLevel (d v : ℕ) : Type 0 where
    pub walks : walk g s v d ≡ true
    pub no_less : least (walk g s v) d ≡ None

  abbrev pub level : ℕ → ℕ → Bool
  level d v = is_none (least (walk g s v) d) && walk g s v d

  pub level_test : (d v : ℕ) → AtLevel d v → level d v ≡ true
  level_test d v at = rw (at.no_less, at.walks) refl

  pub at_level : (d v : ℕ) → level d v ≡ true → AtLevel d v
  at_level d v h =
      elim (least (walk g s v) d) as (λ o. least (walk g s v) d ≡ o → (is_none o && walk g s v d) ≡ true → AtLevel d v) [
        | None ↦ λ none h. record { walks = h; no_less = none }
        | Some c ↦ λ _ h. absurd (false≢true h)
      ] refl h

  -- an edge lengthens a walk
  walk_on : (e : ℕ × ℕ) (v d : ℕ) → Has g e → (e.1 == v) ≡ true → walk g s e.0 d ≡ true → walk g s v (suc d) ≡ true
  walk_on e v d in_graph ends h = in_graph (λ e. e.1 == v && walk g s e.0 d) (and_from (e.1 == v) (walk g s e.0 d) ends h)

  -- the last edge of a least walk comes from the level before
  pub level_before : (d v : ℕ) → AtLevel (suc d) v → (e : ℕ × ℕ) × Has g e × ((e.1 == v) ≡ true) × AtLevel d e.0
  level_before d v at =
      let found = any_found (λ e. e.1 == v && walk g s e.0 d) g at.walks in
      let e : ℕ × ℕ = found.0 in
      let parts = and_parts (e.1 == v) (walk g s e.0 d) found.2 in
      let none : least (walk g s e.0) d ≡ None =
      elim (least (walk g s e.0) d) as (λ o. least (walk g s e.0) d ≡ o → o ≡ None) [
        | None ↦ λ _. refl
        | Some c ↦ λ some. let r = least_some (walk g s e.0) d c some in let below = r.below in absurd (false≢true (sym (least_none (walk g s v) (suc d) (suc c) at.no_less (omega (arith, below))) ∙ walk_on e v c found.1 parts.0 r.passes))
      ] refl in
      (e, found.1, parts.0, record { walks = parts.1; no_less = none })

  -- of a vertex that no walk reached before: an edge from a level reaches it just where a walk of one more edge does
  pub next_level : (d v : ℕ) → least (walk g s v) (suc d) ≡ None → list_any (λ e. e.1 == v && level d e.0) g ≡ walk g s v (suc d)
  next_level d v none =
      same_bool (list_any (λ e. e.1 == v && level d e.0) g) (walk g s v (suc d))
      (λ h. let found = any_found (λ e. e.1 == v && level d e.0) g h in let e : ℕ × ℕ = found.0 in let parts = and_parts (e.1 == v) (level d e.0) found.2 in walk_on e v d found.1 parts.0 (at_level d e.0 parts.1).walks)
      (λ h. let before = level_before d v (record { walks = h; no_less = none }) in let e : ℕ × ℕ = before.0 in before.1 (λ e. e.1 == v && level d e.0) (and_from (e.1 == v) (level d e.0) before.2 (level_test d e.0 before.3)))

  -- ---- the last level

  -- behind an empty level all are empty
  no_level : (d : ℕ) → ((v : ℕ) → level d v ≡ false) → (n v : ℕ) → level (d + n) v ≡ false
  no_level d none zero v = rw (add-zero d) (none v)
  no_level d none (suc n) v =
      rw (add-suc d n) (elim (level (suc (d + n)) v) as (λ b. level (suc (d + n)) v ≡ b → b ≡ false) [
        | true ↦ λ is. let before = level_before (d + n) v (at_level (suc (d + n)) v is) in let e : ℕ × ℕ = before.0 in absurd (false≢true (sym (no_level d none n e.0) ∙ level_test (d + n) e.0 before.3))
        | false ↦ λ _. refl
      ] refl)

  least_stays : (d v : ℕ) → level d v ≡ false → least (walk g s v) (suc d) ≡ least (walk g s v) d
  least_stays d v h =
      elim (least (walk g s v) d) as (λ o. (is_none o && walk g s v d) ≡ false → option_or o (cond (walk g s v d) (Some d) None) ≡ o) [
        | None ↦ λ no. ap (λ b. cond b (Some d) None) no
        | Some c ↦ λ _. refl
      ] h

  least_settled : (d : ℕ) → ((v : ℕ) → level d v ≡ false) → (n v : ℕ) → least (walk g s v) (d + n) ≡ least (walk g s v) d
  least_settled d none zero v = rw (add-zero d) refl
  least_settled d none (suc n) v = rw (add-suc d n) (least_stays (d + n) v (no_level d none n v) ∙ least_settled d none n v)

  -- how many edges lead to a vertex with a walk of fewer than n edges
  abbrev ends_below : ℕ → ℕ
  ends_below n = length (filter (λ e. is_some (least (walk g s e.1) n)) g)

  -- each level but the first takes an edge of its own
  counted : (d v : ℕ) → AtLevel d v → d ≤ ends_below (suc d)
  counted zero v at = omega arith
  counted (suc d) v at =
      let before = level_before d v at in
      let e : ℕ × ℕ = before.0 in
      let same : e.1 ≡ v = exact_unsigned_eq e.1 v before.2 in
      let so_far = counted d e.0 before.3 in
      let p : ℕ × ℕ → Bool = λ e. is_some (least (walk g s e.1) (suc d)) in
      let q : ℕ × ℕ → Bool = λ e. is_some (least (walk g s e.1) (suc (suc d))) in
      let reached : is_some (least (walk g s e.1) (suc (suc d))) ≡ true = subst (λ w. is_some (least (walk g s w) (suc (suc d))) ≡ true) (sym same) (least_more (walk g s v) (suc d) at.walks) in
      let new : not (is_some (least (walk g s e.1) (suc d))) ≡ true = subst (λ w. not (is_some (least (walk g s w) (suc d))) ≡ true) (sym same) (ap (λ o. not (is_some o)) at.no_less) in
      let more : ends_below (suc d) < ends_below (suc (suc d)) =
      keeps_less p q g (λ e h. least_kept (walk g s e.1) (suc d) h) (before.1 (λ e. q e && not (p e)) (and_from (q e) (not (p e)) reached new)) in
      omega (arith, so_far, more)

  -- no least walk has more edges than the graph
  pub level_bound : (d v : ℕ) → AtLevel d v → d ≤ length g
  level_bound d v at =
      let few = counted d v at in
      let all = length-filter_le (λ (e : ℕ × ℕ). is_some (least (walk g s e.1) (suc d))) g in
      omega (arith, few, all)

  -- a vertex with any walk has one of at most as many edges as the graph has
  pub short_walk : (v d : ℕ) → walk g s v d ≡ true → (c : ℕ) × (walk g s v c ≡ true) × (c ≤ length g)
  short_walk v d h =
      elim (least (walk g s v) (suc d)) as (λ o. least (walk g s v) (suc d) ≡ o → (c : ℕ) × (walk g s v c ≡ true) × (c ≤ length g)) [
        | None ↦ λ none. absurd (false≢true (sym (least_none (walk g s v) (suc d) d none (omega arith)) ∙ h))
        | Some c ↦ λ some. let r = least_some (walk g s v) (suc d) c some in (c, r.passes, level_bound c v (record { walks = r.passes; no_less = first_none (walk g s v) c r.first }))
      ] refl
    where
      first_none : (p : ℕ → Bool) (c : ℕ) → ((k : ℕ) → k < c → p k ≡ false) → least p c ≡ None
      first_none p c first = elim (least p c) as (λ o. least p c ≡ o → o ≡ None) [
        | None ↦ λ _. refl
        | Some b ↦ λ some. let r = least_some p c b some in absurd (false≢true (sym (first b r.below) ∙ r.passes))
      ] refl

  level_past : (v : ℕ) → level (length g + 1) v ≡ false
  level_past v =
      elim (level (length g + 1) v) as (λ b. level (length g + 1) v ≡ b → b ≡ false) [
        | true ↦ λ is. let bound = level_bound (length g + 1) v (at_level (length g + 1) v is) in absurd (let none : ⊥ = omega (arith, bound) in none)
        | false ↦ λ _. refl
      ] refl

  -- from an empty level on, the least numbers are those of all walks
  pub settled : (d : ℕ) → ((v : ℕ) → level d v ≡ false) → (v : ℕ) → least (walk g s v) (suc d) ≡ least (walk g s v) (length g + 1)
  settled d none v =
      least_stays d v (none v)
      ∙ sym (least_settled d none (length g + 1) v)
      ∙ ap (least (walk g s v)) (let e : d + (length g + 1) ≡ length g + 1 + d = omega arith in e)
      ∙ least_settled (length g + 1) level_past d v
