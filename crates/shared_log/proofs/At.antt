-- Which item of a row of pages stands at a place.
use Rattle.std.proofs.Common.{◌≡◌, ℕ, zero, suc, ◌+◌, ◌*◌, ◌-◌, ◌<◌, ◌≤◌, List, [], ◌∷◌, ◌++◌, length, slice_get, Some, refl, sym, ◌∙◌, ap, arith, length-append}
use Rattle.std.proofs.lemmas.List.{flat_map_more}
use Rattle.shared_log.specs.Pages.{paged, AreFull}

module _ {A : Type 0} where
  pub at_left : (xs ys : List A) (i : ℕ) → i < length xs → slice_get (xs ++ ys) i ≡ slice_get xs i
  at_left [] ys i h = absurd (omega arith)
  at_left (x ∷ xs) ys zero h = refl
  at_left (x ∷ xs) ys (suc i) h = at_left xs ys i (omega arith)

  at_sum : (xs ys : List A) (i : ℕ) → length xs ≤ i → slice_get (xs ++ ys) i ≡ slice_get ys (i - length xs)
  at_sum [] ys i h = let e : i ≡ i - zero = omega arith in ap (slice_get ys) e
  at_sum (x ∷ xs) ys zero h = absurd (omega arith)
  at_sum (x ∷ xs) ys (suc i) h = let e : i - length xs ≡ suc i - suc (length xs) = omega arith in at_sum xs ys i (omega arith) ∙ ap (slice_get ys) e

  -- the place n is the start of the second list
  pub at_right : (xs ys : List A) (i n : ℕ) → n ≡ length xs → n ≤ i → slice_get (xs ++ ys) i ≡ slice_get ys (i - n)
  at_right xs ys i n is h = let e : i - length xs ≡ i - n = omega arith in at_sum xs ys i (omega arith) ∙ ap (slice_get ys) e

  pub paged_length : (pages : List (List A)) → AreFull 32 pages → length (paged pages) ≡ length pages * 32
  paged_length [] full = grind arith
  paged_length (page ∷ pages) full = let rest = paged_length pages full.1 in let is = full.0 in let sum = length-append page (paged pages) in omega (arith, rest, is, sum)

  pub full_more : (pages : List (List A)) (page : List A) → AreFull 32 pages → length page ≡ 32 → AreFull 32 (pages ++ page ∷ [])
  full_more [] page full is = (is, tt)
  full_more (first ∷ pages) page full is = (full.0, full_more pages page full.1 is)

  pub full_at : (pages : List (List A)) (q : ℕ) (page : List A) → AreFull 32 pages → slice_get pages q ≡ Some page → length page ≡ 32
  full_at [] q page full is = absurd (grind (arith, is))
  full_at (first ∷ pages) zero page full is = grind (arith, is, full.0)
  full_at (first ∷ pages) (suc q) page full is = full_at pages q page full.1 is

  -- the item r of the page q
  pub at_page : (pages : List (List A)) (q r : ℕ) (page : List A) → AreFull 32 pages → r < 32 → slice_get pages q ≡ Some page → slice_get (paged pages) (q * 32 + r) ≡ slice_get page r
  at_page [] q r page full small is = absurd (grind (arith, is))
  at_page (first ∷ pages) zero r page full small is =
      let e : 0 * 32 + r ≡ r = omega arith in let long = full.0 in
      ap (slice_get (paged (first ∷ pages))) e ∙ at_left first (paged pages) r (omega (arith, long)) ∙ grind (arith, is)
  at_page (first ∷ pages) (suc q) r page full small is =
      let e : suc q * 32 + r - 32 ≡ q * 32 + r = omega arith in let long = full.0 in
      at_right first (paged pages) (suc q * 32 + r) 32 (omega (arith, long)) (omega arith) ∙ ap (slice_get (paged pages)) e ∙ at_page pages q r page full.1 small is

  pub paged_more : (pages : List (List A)) (page : List A) → paged (pages ++ page ∷ []) ≡ paged pages ++ page
  paged_more pages page = sym (flat_map_more (λ (p : List A). p) [] pages page)
