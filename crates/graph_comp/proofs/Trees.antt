-- Forests that change, and the labels that their trees keep.
use Rattle.std.proofs.Common.{◌≡◌, ◌∙◌, ◌+◌, ◌≤◌, ◌<◌, ℕ, List, inl, inr, get_or, get_or-set_other, get_or-set_same, length, set, below_more, sym, ap, subst, arith}
use Rattle.std.specs.Prelude.{◌↔◌}
use Rattle.std.proofs.lemmas.Bool.{cases_eq}
use Rattle.std.proofs.lemmas.List.{length-set}
use Rattle.graph_comp.specs.Forests.{IsForest, KeepsTrees}

-- two forests keep the same labels
abbrev pub KeepSame : List ℕ → List ℕ → Type 0
KeepSame after before = (label : ℕ → ℕ) → KeepsTrees label after ↔ KeepsTrees label before

pub same_twice : (a b c : List ℕ) → KeepSame a b → KeepSame b c → KeepSame a c
same_twice a b c x y label = ((λ k. (y label).0 ((x label).0 k)), (λ k. (x label).1 ((y label).1 k)))

pub same_itself : (a : List ℕ) → KeepSame a a
same_itself a label = ((λ k. k), (λ k. k))

-- a place gets another parent
module _ (parents : List ℕ) (i a : ℕ) (within : i < length parents) where
  -- what holds of the new parent and of all others
  at_each : (P : ℕ → ℕ → Type 0) → P i a → ((k : ℕ) → (k ≡ i → ⊥) → k < length parents → P k (get_or parents k 0)) → (k : ℕ) → k < length (set parents i a) → P k (get_or (set parents i a) k 0)
  at_each P here others k lt =
      elim (cases_eq k i) [
        | inl is ↦ subst (λ j. P j (get_or (set parents i a) j 0)) (sym is) (subst (P i) (sym (get_or-set_same parents i a 0 within)) here)
        | inr other ↦ subst (P k) (sym (get_or-set_other parents i k a 0 other)) (others k other (omega (arith, length-set parents i a)))
      ]

  pub still_forest : IsForest parents → a ≤ i → IsForest (set parents i a)
  still_forest forest low = at_each (λ k p. p ≤ k) low (λ k _ lt. forest k lt)

  -- what the new forest says of the new parent and of all others
  of_new : (label : ℕ → ℕ) → KeepsTrees label (set parents i a) → label a ≡ label i
  of_new label keeps =
      let lt : i < length (set parents i a) = omega (arith, length-set parents i a) in
      sym (ap label (get_or-set_same parents i a 0 within)) ∙ keeps i lt

  of_other : (label : ℕ → ℕ) → KeepsTrees label (set parents i a) → (k : ℕ) → (k ≡ i → ⊥) → k < length parents → label (get_or parents k 0) ≡ label k
  of_other label keeps k other lt =
      let lt' : k < length (set parents i a) = omega (arith, length-set parents i a) in
      sym (ap label (get_or-set_other parents i k a 0 other)) ∙ keeps k lt'

  of_all : (label : ℕ → ℕ) → KeepsTrees label (set parents i a) → label (get_or parents i 0) ≡ label i → KeepsTrees label parents
  of_all label keeps here k lt = elim (cases_eq k i) [
    | inl is ↦ subst (λ j. label (get_or parents j 0) ≡ label j) (sym is) here
    | inr other ↦ of_other label keeps k other lt
  ]

  -- a root gets a parent
  pub joined_root : get_or parents i 0 ≡ i → (label : ℕ → ℕ) → KeepsTrees label (set parents i a) ↔ (KeepsTrees label parents × (label a ≡ label i))
  joined_root is label = (
    (λ keeps. (of_all label keeps (ap label is), of_new label keeps)),
    (λ keeps. at_each (λ k p. label p ≡ label k) keeps.1 (λ k _ lt. keeps.0 k lt)),
  )

-- a place gets its parent's parent
module _ (parents : List ℕ) (i : ℕ) (within : i < length parents) (forest : IsForest parents) where
  abbrev above : ℕ
  above = get_or parents (get_or parents i 0) 0

  above_low : above ≤ i
  above_low =
      let low : get_or parents i 0 ≤ i = forest i within in
      let lower : above ≤ get_or parents i 0 = forest (get_or parents i 0) (omega arith) in
      omega arith

  pub halved_forest : IsForest (set parents i above)
  halved_forest = still_forest parents i above within forest above_low

  pub halved_keeps : KeepSame (set parents i above) parents
  halved_keeps label = (
    (λ keeps. of_all parents i above within label keeps (elim (cases_eq (get_or parents i 0) i) [
      | inl is ↦ ap label is
      | inr other ↦ sym (of_other parents i above within label keeps (get_or parents i 0) other (let low : get_or parents i 0 ≤ i = forest i within in omega arith)) ∙ of_new parents i above within label keeps
    ])),
    (λ keeps. at_each parents i above within (λ k p. label p ≡ label k)
        (keeps (get_or parents i 0) (let low : get_or parents i 0 ≤ i = forest i within in omega arith) ∙ keeps i within)
        (λ k _ lt. keeps k lt)),
  )

  -- roots stay roots
  pub halved_root : (v : ℕ) → get_or parents v 0 ≡ v → get_or (set parents i above) v 0 ≡ v
  halved_root v is = elim (cases_eq v i) [
    | inl same ↦
        let root : get_or parents i 0 ≡ i = subst (λ j. get_or parents j 0 ≡ j) same is in
        subst (λ j. get_or (set parents i above) j 0 ≡ j) (sym same) (get_or-set_same parents i above 0 within ∙ ap (λ j. get_or parents j 0) root ∙ root)
    | inr other ↦ get_or-set_other parents i v above 0 other ∙ is
  ]

  pub halved_label : (label : ℕ → ℕ) → KeepsTrees label parents → label above ≡ label i
  halved_label label keeps = keeps (get_or parents i 0) (let low : get_or parents i 0 ≤ i = forest i within in omega arith) ∙ keeps i within

  -- places before that have roots as parents still have
  abbrev IsFlatTo : List ℕ → ℕ → Type 0
  IsFlatTo list n = (v : ℕ) → v < n → get_or list (get_or list v 0) 0 ≡ get_or list v 0

  abbrev new : List ℕ
  new = set parents i above

  pub halved_flat : IsFlatTo parents i → IsFlatTo (set parents i above) (i + 1)
  halved_flat flat v lt = elim (cases_eq v i) [
    | inl same ↦ subst (λ j. get_or new (get_or new j 0) 0 ≡ get_or new j 0) (sym same) (ap (λ j. get_or new j 0) at_i ∙ root_above ∙ sym at_i)
    | inr other ↦
        let before : v < i = omega arith in
        let low : get_or parents v 0 ≤ v = forest v (omega arith) in
        let same : get_or new v 0 ≡ get_or parents v 0 = get_or-set_other parents i v above 0 other in
        ap (λ j. get_or new j 0) same ∙ get_or-set_other parents i (get_or parents v 0) above 0 (λ is. omega arith) ∙ flat v before ∙ sym same
  ]
    where
      at_i : get_or new i 0 ≡ above
      at_i = get_or-set_same parents i above 0 within

      root_above : get_or new above 0 ≡ above
      root_above = elim (cases_eq above i) [
        | inl is ↦ ap (λ j. get_or new j 0) is ∙ at_i
        | inr other ↦ get_or-set_other parents i above above 0 other ∙ elim (cases_eq (get_or parents i 0) i) [
          | inl self ↦ absurd (other (ap (λ j. get_or parents j 0) self ∙ self))
          | inr lower ↦ flat (get_or parents i 0) (let low : get_or parents i 0 ≤ i = forest i within in omega arith)
        ]
      ]

-- ---- loops

-- how far a climb has come
pub record Climbed (before parents : List ℕ) (start place : ℕ) : Type 0 where
  pub forest : IsForest parents
  pub len : length parents ≡ length before
  pub within : place < length parents
  pub same : KeepSame parents before
  pub roots : (v : ℕ) → get_or before v 0 ≡ v → get_or parents v 0 ≡ v
  pub tree : (label : ℕ → ℕ) → KeepsTrees label parents → label place ≡ label start

pub climbed_more : (before parents : List ℕ) (start place : ℕ) → Climbed before parents start place
    → Climbed before (set parents place (get_or parents (get_or parents place 0) 0)) start (get_or parents (get_or parents place 0) 0)
climbed_more before parents start place so_far = record {
  forest = halved_forest parents place so_far.within so_far.forest;
  len = length-set parents place (get_or parents (get_or parents place 0) 0) ∙ so_far.len;
  within = let low : get_or parents (get_or parents place 0) 0 ≤ place = above_low parents place so_far.within so_far.forest in let lt : place < length parents = so_far.within in omega (arith, length-set parents place (get_or parents (get_or parents place 0) 0));
  same = same_twice (set parents place (get_or parents (get_or parents place 0) 0)) parents before (halved_keeps parents place so_far.within so_far.forest) so_far.same;
  roots = λ v is. halved_root parents place so_far.within so_far.forest v (so_far.roots v is);
  tree = λ label keeps.
      let before_it = (halved_keeps parents place so_far.within so_far.forest label).0 keeps in
      halved_label parents place so_far.within so_far.forest label before_it ∙ so_far.tree label before_it;
}

pub climbs : (before parents : List ℕ) (start place : ℕ) → Climbed before parents start place → get_or parents place 0 < place → get_or parents (get_or parents place 0) 0 < place
climbs before parents start place so_far lt =
    let within : place < length parents = so_far.within in
    let low : get_or parents (get_or parents place 0) 0 ≤ get_or parents place 0 = so_far.forest (get_or parents place 0) (omega arith) in omega arith

pub at_root : (before parents : List ℕ) (start place : ℕ) → Climbed before parents start place → place ≤ get_or parents place 0 → get_or parents place 0 ≡ place
at_root before parents start place so_far le = let low : get_or parents place 0 ≤ place = so_far.forest place so_far.within in omega arith

-- how far a forest is flat
pub record Flattened (before parents : List ℕ) (n : ℕ) : Type 0 where
  pub forest : IsForest parents
  pub len : length parents ≡ length before
  pub same : KeepSame parents before
  pub flat : (v : ℕ) → v < n → get_or parents (get_or parents v 0) 0 ≡ get_or parents v 0

pub flattened_more : (before parents : List ℕ) (n : ℕ) → n < length parents → Flattened before parents n → Flattened before (set parents n (get_or parents (get_or parents n 0) 0)) (n + 1)
flattened_more before parents n within so_far = record {
  forest = halved_forest parents n within so_far.forest;
  len = length-set parents n (get_or parents (get_or parents n 0) 0) ∙ so_far.len;
  same = same_twice (set parents n (get_or parents (get_or parents n 0) 0)) parents before (halved_keeps parents n within so_far.forest) so_far.same;
  flat = halved_flat parents n within so_far.forest so_far.flat;
}

-- ---- the trees of two places made one

-- after the roots were found in turn, one of them gets the other as its parent
pub united : (before first second after : List ℕ) (one other near far : ℕ)
    → KeepSame first before → KeepSame second first
    → ((label : ℕ → ℕ) → KeepsTrees label first → label near ≡ label one)
    → ((label : ℕ → ℕ) → KeepsTrees label second → label far ≡ label other)
    → ((label : ℕ → ℕ) → KeepsTrees label after ↔ (KeepsTrees label second × (label near ≡ label far)))
    → (label : ℕ → ℕ) → KeepsTrees label after ↔ (KeepsTrees label before × (label one ≡ label other))
united before first second after one other near far same_first same_second of_near of_far joined label = (
  (λ keeps.
      let both = (joined label).0 keeps in
      let keeps_first = (same_second label).0 both.0 in
      ((same_first label).0 keeps_first, sym (of_near label keeps_first) ∙ both.1 ∙ of_far label both.0)),
  (λ keeps.
      let keeps_first = (same_first label).1 keeps.0 in
      let keeps_second = (same_second label).1 keeps_first in
      (joined label).1 (keeps_second, of_near label keeps_first ∙ keeps.1 ∙ sym (of_far label keeps_second))),
)

-- ---- two forests united

-- the trees of a forest before, and of another's first places
abbrev pub UnitedSo : List ℕ → List ℕ → List ℕ → ℕ → Type 0
UnitedSo parents before others n = (label : ℕ → ℕ) → KeepsTrees label parents ↔ (KeepsTrees label before × ((k : ℕ) → k < n → label (get_or others k 0) ≡ label k))

pub united_none : (parents others : List ℕ) → UnitedSo parents parents others 0
united_none parents others label = ((λ keeps. (keeps, λ k lt. absurd (omega arith))), (λ keeps. keeps.0))

pub united_more : (new parents before others : List ℕ) (i : ℕ) → UnitedSo parents before others i
    → ((label : ℕ → ℕ) → KeepsTrees label new ↔ (KeepsTrees label parents × (label i ≡ label (get_or others i 0)))) → UnitedSo new before others (i + 1)
united_more new parents before others i united one label = (
  (λ keeps.
      let both = (one label).0 keeps in
      let so_far = (united label).0 both.0 in
      (so_far.0, below_more (λ k. label (get_or others k 0) ≡ label k) i so_far.1 (sym both.1))),
  (λ keeps. (one label).1 ((united label).1 (keeps.0, λ k lt. keeps.1 k (omega arith)), sym (keeps.1 i (omega arith)))),
)

pub united_all : (parents before others : List ℕ) (n : ℕ) → n ≡ length others → UnitedSo parents before others n → (label : ℕ → ℕ) → KeepsTrees label parents ↔ (KeepsTrees label before × KeepsTrees label others)
united_all parents before others n is united = subst (UnitedSo parents before others) is united
