-- A fold that passes a test, and how many augmented values are tested for it.
use Rattle.std.proofs.Common.{◌≡◌, ℕ, ◌++◌, length-append, subst, ◌+◌, ◌*◌, ◌<◌, ◌≤◌, Bool, true, false, ◌||◌, cond, List, [], ◌∷◌, length, refl, sym, ap, ◌∙◌, arith, mul-le-mul_left}
use Rattle.std.specs.Prelude.{Result, Ok, Err, Option, IfOk, IsNone}
use Rattle.std.specs.List.{filter, slice_get}
use Rattle.std.proofs.lemmas.List.Elements.{filter-append}
use Rattle.map_model.specs.Fold.{IsMonoidOver, fold_of, aug_filter, PassesEither}
use Rattle.map_model.proofs.Folds.{fold-fits}
use Rattle.tree_filter.specs.Tests.{filter_tests}

kept_some : {E : Type 0} (b c : Bool) (x : E) (kept : List E) → (b || c) ≡ true → (c ≡ true → 0 < length kept) → 0 < length (cond b (x ∷ kept) kept)
kept_some true c x kept is more = omega arith
kept_some false c x kept is more = more is

module _ {K V X : Type 0} {Fits : X → Type 0} {base : K → V → X} {unit : X} {combine : X → X → X} (monoid : IsMonoidOver Fits unit combine) (base_fits : (k : K) (v : V) → Fits (base k v)) (passes : X → Bool) (passes_either : PassesEither Fits combine passes) where
  -- where the fold of a list passes, an entry of it does
  pub aug_filter-some : (m : List (K × V)) → ¬ (m ≡ []) → passes (fold_of base unit combine m) ≡ true → 0 < length (aug_filter base passes m)
  aug_filter-some [] some h = absurd (some refl)
  aug_filter-some (e ∷ []) some h =
      let here : passes (base e.0 e.1) ≡ true = ap passes (sym (monoid.right_unit (base e.0 e.1) (base_fits e.0 e.1))) ∙ h in
      rw here (omega arith)
  aug_filter-some (e ∷ f ∷ m) some h =
      let either = sym (passes_either (base e.0 e.1) (fold_of base unit combine (f ∷ m)) (base_fits e.0 e.1) (fold-fits monoid base_fits (f ∷ m))) ∙ h in
      kept_some (passes (base e.0 e.1)) (passes (fold_of base unit combine (f ∷ m))) e (aug_filter base passes (f ∷ m)) either (aug_filter-some (f ∷ m) (λ is. cc))

-- a part that costs so much at a lower height leaves three tests for each entry that passes
level_below : (block low height kept : ℕ) → low + 1 ≤ height → kept * (3 * low + 2 * block) + 3 * kept ≤ kept * (3 * height + 2 * block)
level_below block low height kept lower =
    let more : 3 * low + 2 * block + 3 ≤ 3 * height + 2 * block = omega (arith, lower) in
    let up = mul-le-mul_left kept more in
    omega (arith, up)

-- the tests of a node that has an entry that passes: its own, its entry's, and those of its sides
pub filter_tests_node : (block left right height front middle back start one two three four : ℕ) → left + 1 ≤ height → right + 1 ≤ height → 0 < front + middle + back
    → one ≤ start + 1 → two ≤ one + filter_tests block left front → three ≤ two + filter_tests block right back → four ≤ three + 1
    → four ≤ start + filter_tests block height (front + middle + back)
filter_tests_node block left right height front middle back start one two three four lower_left lower_right some first second third fourth =
    let lefts = level_below block left height front lower_left in
    let rights = level_below block right height back lower_right in
    let high : 3 ≤ 3 * height + 2 * block = omega (arith, lower_left) in
    let own = mul-le-mul_left middle high in
    omega (arith, lefts, rights, own, some, first, second, third, fourth)

-- the tests of a block that has an entry that passes
pub filter_tests_block : (block entries height kept start one two : ℕ) → entries ≤ 2 * block → 0 < kept → one ≤ start + 1 → two ≤ one + entries → two ≤ start + filter_tests block height kept
filter_tests_block block entries height kept start one two short some first second =
    let least : 1 ≤ kept = omega (arith, some) in
    let up = mul-le-mul_left (3 * height + 2 * block) least in
    omega (arith, up, short, first, second)

module _ {E : Type 0} (p : E → Bool) where
  count_here : (b : Bool) (e : E) (kept : List E) (before : ℕ) → before + length (cond b (e ∷ kept) kept) ≡ before + cond b 1 0 + length kept
  count_here true e kept before = omega arith
  count_here false e kept before = omega arith

  -- how many entries of a map pass, by its sides and the entry between them
  kept_sides : (whole l : List E) (e : E) (r : List E) → whole ≡ l ++ e ∷ r → length (filter p whole) ≡ length (filter p l) + cond (p e) 1 0 + length (filter p r)
  kept_sides whole l e r is =
      ap (λ m. length (filter p m)) is ∙ ap length (filter-append p l (e ∷ r)) ∙ length-append (filter p l) (filter p (e ∷ r)) ∙ count_here (p e) e (filter p r) (length (filter p l))

  -- the tests of a map that has an entry that passes, by those of its sides
  pub tests_around : (whole l : List E) (e : E) (r : List E) → whole ≡ l ++ e ∷ r → (block left right height start one two three four : ℕ) → left + 1 ≤ height → right + 1 ≤ height → 0 < length (filter p whole)
      → one ≤ start + 1 → two ≤ one + filter_tests block left (length (filter p l)) → three ≤ two + filter_tests block right (length (filter p r)) → four ≤ three + 1
      → four ≤ start + filter_tests block height (length (filter p whole))
  tests_around whole l e r is block left right height start one two three four lower_left lower_right some first second third fourth =
      let parts = kept_sides whole l e r is in
      rw parts (filter_tests_node block left right height (length (filter p l)) (cond (p e) 1 0) (length (filter p r)) start one two three four lower_left lower_right (rw parts at some) first second third fourth)

-- a search that finds nothing, where an entry passes
pub none_missed : {E F : Type 0} (P : Type 0) (kept : List E) (r : Result (Option E) F) → 0 < length kept → IfOk r (λ found. found ≡ slice_get kept 0) → IfOk r (λ found. IsNone found → P)
none_missed P kept (Err _) some is = tt
none_missed P [] (Ok found) some is = absurd (omega (arith, some))
none_missed P (x ∷ kept) (Ok found) some is = λ none. let no = subst IsNone is none in cc
