-- The heaviest of some documents, and what is left behind it.
use Rattle.std.proofs.Common.{◌≡◌, ℕ, zero, suc, ◌+◌, ◌-◌, ◌^◌, ◌<◌, ◌≤◌, Bool, true, false, cond, List, [], ◌∷◌, ◌++◌, Option, Some, None, take, refl, sym, ap, ap₂, ◌∙◌, append_assoc, append-nil, subst, arith}
use Rattle.std.specs.declared.cmp.Ordering.TheVariants.{Less, Equal, Greater}
use Rattle.std.specs.List.{AllByRecursion, filter}
use Rattle.std.specs.Option.{IsNone}
use Rattle.std.specs.Prelude.{◌↔◌}
use Rattle.std.specs.Ordering.{nat_cmp, is_eq, is_ne}
use Rattle.std.proofs.lemmas.Cmp.{nat_cmp_total, tied_itself}
use Rattle.std.proofs.lemmas.Bool.Decides.{nat_tests}
use Rattle.map_model.specs.Entries.{AllAbove, IsIncreasing, drop_key, lookup}
use Rattle.map_model.specs.Fold.{aug_filter, fold_of}
use Rattle.map_model.specs.Parts.{select}
use Rattle.aug_monoid.specs.Totals.{totals_base, totals_combine, totals_unit}
use Rattle.aug_monoid.specs.declared.totals.Totals.{Totals}
use Rattle.map_model.proofs.Around.{drop_key-around_equal}
use Rattle.map_model.proofs.Keys.{around}
use Rattle.map_model.proofs.Lookups.{first_found, lookup-behind}
use Rattle.map_model.proofs.NatKeys.{lt_from_less}
use Rattle.inverted_index.specs.Queries.{hits_of, ranked, ranked_in, ranks_before}
use Rattle.inverted_index.specs.declared.hit.Hit.{Hit}
use Rattle.inverted_index.specs.Ranks.{AreBelow, AreLow, IsFirst, Leads, weighs}

-- ---- what holds of each element

pub all-back : {X : Type 0} (F : X → Type 0) (l r : List X) → AllByRecursion F (l ++ r) → AllByRecursion F r
all-back F [] r a = a
all-back F (x ∷ l) r a = all-back F l r a.1

-- ---- ranks

pub all-ranked_in : (F : ℕ × ℕ → Type 0) (a : ℕ × ℕ) (s : List (ℕ × ℕ)) → F a → AllByRecursion F s → AllByRecursion F (ranked_in a s)
all-ranked_in F a [] here there = (here, tt)
all-ranked_in F a (b ∷ s) here there = elim (ranks_before a b) as (λ t. AllByRecursion F (cond t (a ∷ b ∷ s) (b ∷ ranked_in a s))) [ true ↦ (here, (there.0, there.1)) | false ↦ (there.0, all-ranked_in F a s here there.1) ]

pub all-ranked : (F : ℕ × ℕ → Type 0) (s : List (ℕ × ℕ)) → AllByRecursion F s → AllByRecursion F (ranked s)
all-ranked F [] a = tt
all-ranked F (x ∷ s) a = all-ranked_in F x (ranked s) a.0 (all-ranked F s a.1)

ranked_in-first : (a : ℕ × ℕ) (s : List (ℕ × ℕ)) → AllByRecursion (λ b. ranks_before a b ≡ true) s → ranked_in a s ≡ a ∷ s
ranked_in-first a [] h = refl
ranked_in-first a (b ∷ s) h = ap (λ t. cond t (a ∷ b ∷ s) (b ∷ ranked_in a s)) h.0

lighter : (x d g : ℕ) (w : ℕ) → w < g → ranks_before (x, w) (d, g) ≡ false
lighter x d g w h = grind (arith, nat_tests)

no_heavier : (d g y v : ℕ) → v ≤ g → d < y → ranks_before (d, g) (y, v) ≡ true
no_heavier d g y v h k = grind (arith, nat_tests)

-- behind it: no heavier, and of greater numbers
behind : (d g : ℕ) (back : List (ℕ × ℕ)) → AllByRecursion (λ e. e.1 ≤ g) back → AllAbove nat_cmp back d → AllByRecursion (λ b. ranks_before (d, g) b ≡ true) back
behind d g [] low above = tt
behind d g (e ∷ back) low above = (no_heavier d g e.0 e.1 low.0 (lt_from_less d e.0 above.0), behind d g back low.1 above.1)

ranked-heaviest : (front : List (ℕ × ℕ)) (d g : ℕ) (back : List (ℕ × ℕ)) → AreBelow g front → AllByRecursion (λ e. e.1 ≤ g) back → AllAbove nat_cmp back d → ranked (front ++ (d, g) ∷ back) ≡ (d, g) ∷ ranked (front ++ back)
ranked-heaviest [] d g back less low above = ranked_in-first (d, g) (ranked back) (all-ranked (λ b. ranks_before (d, g) b ≡ true) back (behind d g back low above))
ranked-heaviest (x ∷ front) d g back less low above =
    ap (ranked_in x) (ranked-heaviest front d g back less.1 low above)
    ∙ ap (λ t. cond t (x ∷ (d, g) ∷ ranked (front ++ back)) ((d, g) ∷ ranked_in x (ranked (front ++ back)))) (lighter x.0 d g x.1 less.0)

-- the first of the greatest weight leads
pub leads : (es : List (ℕ × ℕ)) (g d : ℕ) → IsIncreasing nat_cmp es → AllByRecursion (λ e. e.1 ≤ g) es → IsFirst es g d → ranked es ≡ (d, g) ∷ ranked (drop_key nat_cmp es d)
leads es g d rises low first =
    let parts = all-back (λ e. e.1 ≤ g) first.front ((d, first.weight) ∷ first.back) (rw (← first.split) low) in
    let same : first.weight ≡ g = omega (arith, parts.0, first.heavy) in
    let split : es ≡ first.front ++ (d, g) ∷ first.back = first.split ∙ ap (λ w. first.front ++ (d, w) ∷ first.back) same in
    let order : IsIncreasing nat_cmp (first.front ++ (d, g) ∷ first.back) = rw (← split) rises in
    ap ranked split
    ∙ ranked-heaviest first.front d g first.back first.less parts.1 (around nat_cmp first.front d g first.back order).upper
    ∙ ap (λ x. (d, g) ∷ ranked x) (sym (ap (λ x. drop_key nat_cmp x d) split ∙ drop_key-around_equal nat_cmp_total first.front d g first.back d order (tied_itself nat_cmp_total d)))

pub take_leading : (k i : ℕ) (a : ℕ × ℕ) (s : List (ℕ × ℕ)) → i < k → take (k - i) (a ∷ s) ≡ a ∷ take (k - (i + 1)) s
take_leading k i a s h = let more : k - i ≡ suc (k - (i + 1)) = omega arith in rw more refl

-- ---- the greatest weight

abbrev pub totals_fold : List (ℕ × ℕ) → Totals
totals_fold m = fold_of (λ (k v : ℕ). totals_base v) totals_unit totals_combine m

-- no weight is above it
pub greatest_above : (m : List (ℕ × ℕ)) (g : ℕ) → AreLow m → (totals_fold m).greatest ≤ g → AllByRecursion (λ e. e.1 ≤ g) m
greatest_above [] g low h = tt
greatest_above (e ∷ m) g low h = (omega (arith, low.0, h), greatest_above m g low.1 (omega (arith, h)))

-- some document has it
below_greatest : (m : List (ℕ × ℕ)) (g : ℕ) → 0 < g → AreBelow g m → (totals_fold m).greatest < g
below_greatest [] g h less = h
below_greatest (e ∷ m) g h less = let rest = below_greatest m g h less.1 in omega (arith, less.0, rest)

pub some_greatest : (m : List (ℕ × ℕ)) → (m ≡ [] → ⊥) → AreBelow (totals_fold m).greatest m → ⊥
some_greatest [] filled less = filled refl
some_greatest (e ∷ m) filled less = let bad = below_greatest (e ∷ m) (totals_fold (e ∷ m)).greatest (omega (arith, less.0)) less in omega (arith, bad)

-- ---- the first of so much weight

abbrev pub heavy : ℕ → List (ℕ × ℕ) → List (ℕ × ℕ)
heavy least m = aug_filter (λ (doc weight : ℕ). totals_base weight) (weighs least) m

at_least : (least weight : ℕ) → weight ≤ 2 ^ 64 - 1 → weighs least (totals_base weight) ≡ true → least ≤ weight
at_least least weight low is = grind (arith, nat_tests)

under : (least weight : ℕ) → weight ≤ 2 ^ 64 - 1 → weighs least (totals_base weight) ≡ false → weight < least
under least weight low is = grind (arith, nat_tests)

pub first_heavy : (m : List (ℕ × ℕ)) (least : ℕ) (found : ℕ × ℕ) → AreLow m → select (heavy least m) 0 ≡ Some found → IsFirst m least found.0
first_heavy [] least found low h = cc
first_heavy (e ∷ m) least found low h =
    elim (weighs least (totals_base e.1)) as (λ b. weighs least (totals_base e.1) ≡ b → select (cond b (e ∷ heavy least m) (heavy least m)) 0 ≡ Some found → IsFirst (e ∷ m) least found.0) [
      | true ↦ λ is here.
          let same : e ≡ found = cc in
          record { front = []; weight = found.1; back = m; split = ap (λ x. x ∷ m) same; less = tt; heavy = subst (λ x. least ≤ x.1) same (at_least least e.1 low.0 is) }
      | false ↦ λ is later.
          let rest = first_heavy m least found low.1 later in
          record { front = e ∷ rest.front; weight = rest.weight; back = rest.back; split = ap (λ x. e ∷ x) rest.split; less = (under least e.1 low.0 is, rest.less); heavy = rest.heavy }
    ] refl h

pub none_heavy : (m : List (ℕ × ℕ)) (least : ℕ) → AreLow m → select (heavy least m) 0 ≡ None → AreBelow least m
none_heavy [] least low h = tt
none_heavy (e ∷ m) least low h =
    elim (weighs least (totals_base e.1)) as (λ b. weighs least (totals_base e.1) ≡ b → select (cond b (e ∷ heavy least m) (heavy least m)) 0 ≡ None → AreBelow least (e ∷ m)) [
      | true ↦ λ is here. cc
      | false ↦ λ is later. (under least e.1 low.0 is, none_heavy m least low.1 later)
    ] refl h

pub low_fits : (m : List (ℕ × ℕ)) → IsIncreasing nat_cmp m → ((q w : ℕ) → lookup nat_cmp m q ≡ Some w → w ≤ 2 ^ 64 - 1) → AreLow m
low_fits [] s h = tt
low_fits (e ∷ m) s h = (h e.0 e.1 (first_found nat_cmp_total e m), low_fits m s.1 (λ q w is. h q w (behind_first q w is)))
  where
    behind_first : (q w : ℕ) → lookup nat_cmp m q ≡ Some w → lookup nat_cmp (e ∷ m) q ≡ Some w
    behind_first q w is =
        elim (nat_cmp e.0 q) as (λ o. nat_cmp e.0 q ≡ o → cond (is_eq o) (Some e.1) (lookup nat_cmp m q) ≡ Some w) [
          | Less ↦ λ _. is
          | Equal ↦ λ ties. absurd (let bad : ◌≡◌ {A = Option ℕ} None (Some w) = sym (lookup-behind nat_cmp_total e m q s ties) ∙ is in cc)
          | Greater ↦ λ _. is
        ] refl

pub heaviest_leads : (es : List (ℕ × ℕ)) (g d : ℕ) → IsIncreasing nat_cmp es → AreLow es → g ≡ (totals_fold es).greatest → IsFirst es g d → ranked es ≡ (d, g) ∷ ranked (drop_key nat_cmp es d)
heaviest_leads es g d rises low is first = leads es g d rises (greatest_above es g low (omega (arith, is))) first

pub low_dropped : (m es : List (ℕ × ℕ)) (d : ℕ) → m ≡ drop_key nat_cmp es d → AreLow es → AreLow m
low_dropped m es d is low = let Low : List (ℕ × ℕ) → Type 0 = λ x. AreLow x in subst Low (sym is) (all-filter (λ e. e.1 ≤ 2 ^ 64 - 1) (λ e. is_ne (nat_cmp e.0 d)) es low)
  where
    all-filter : (F : ℕ × ℕ → Type 0) (p : ℕ × ℕ → Bool) (xs : List (ℕ × ℕ)) → AllByRecursion F xs → AllByRecursion F (filter p xs)
    all-filter F p [] a = tt
    all-filter F p (x ∷ xs) a = elim (p x) as (λ b. AllByRecursion F (cond b (x ∷ filter p xs) (filter p xs))) [ true ↦ (a.0, all-filter F p xs a.1) | false ↦ all-filter F p xs a.1 ]

-- one hit more
pub top_more : (all hits more : List Hit) (k i : ℕ) (es rest : List (ℕ × ℕ)) (hit : Hit) → i < k → all ≡ hits ++ hits_of (take (k - i) (ranked es)) → ranked es ≡ (hit.doc, hit.weight) ∷ ranked (drop_key nat_cmp es hit.doc) → rest ≡ drop_key nat_cmp es hit.doc → more ≡ hits ++ hit ∷ [] → all ≡ more ++ hits_of (take (k - (i + 1)) (ranked rest))
top_more all hits more k i es rest hit low so_far leading dropped pushed =
    so_far
    ∙ ap (λ x. hits ++ hits_of x) (ap (take (k - i)) leading ∙ take_leading k i (hit.doc, hit.weight) (ranked (drop_key nat_cmp es hit.doc)) low)
    ∙ sym (append_assoc hits (hit ∷ []) (hits_of (take (k - (i + 1)) (ranked (drop_key nat_cmp es hit.doc)))))
    ∙ ap₂ (λ x y. x ++ hits_of (take (k - (i + 1)) (ranked y))) (sym pushed) (sym dropped)

-- none are left
pub top_done : (all hits : List Hit) (k i : ℕ) (es : List (ℕ × ℕ)) → all ≡ hits ++ hits_of (take (k - i) (ranked es)) → es ≡ [] → hits ≡ all
top_done all hits k i es so_far none = sym (so_far ∙ ap (λ x. hits ++ hits_of (take (k - i) (ranked x))) none ∙ ap (λ x. hits ++ hits_of x) (take-nil (k - i)) ∙ append-nil hits)
  where
    take-nil : (n : ℕ) → ◌≡◌ {A = List (ℕ × ℕ)} (take n []) []
    take-nil zero = refl
    take-nil (suc n) = refl

-- all are there
pub top_end : (all hits : List Hit) (k i : ℕ) (es : List (ℕ × ℕ)) → all ≡ hits ++ hits_of (take (k - i) (ranked es)) → k ≤ i → hits ≡ all
top_end all hits k i es so_far enough =
    let none : k - i ≡ 0 = omega arith in
    sym (so_far ∙ ap (λ n. hits ++ hits_of (take n (ranked es))) none ∙ append-nil hits)

-- some document has the greatest weight
pub no_greatest : (totals : Totals) (m : List (ℕ × ℕ)) → (IsNone (Some totals) ↔ (m ≡ [])) → totals ≡ totals_fold m → AreBelow totals.greatest m → ⊥
no_greatest totals [] none is less = let bad : true ≡ false = none.1 refl in cc
no_greatest totals (e ∷ m) none is less = some_greatest (e ∷ m) (λ empty. cc) (let Below : Totals → Type 0 = λ t. AreBelow t.greatest (e ∷ m) in subst Below is less)

pub leads_none : (m : List (ℕ × ℕ)) (o : Option Hit) → Leads m o → ((hit : Hit) → o ≡ Some hit → ⊥) → m ≡ []
leads_none m None h none = h
leads_none m (Some hit) h none = absurd (none hit refl)

pub leads_some : (m : List (ℕ × ℕ)) (o : Option Hit) (hit : Hit) → Leads m o → o ≡ Some hit → ranked m ≡ (hit.doc, hit.weight) ∷ ranked (drop_key nat_cmp m hit.doc)
leads_some m o hit h is = let Is : Option Hit → Type 0 = λ x. Leads m x in subst Is is h
