-- Decimal numbers within a text: where they end, and that each is of one number.
use Rattle.std.proofs.Common.{◌≡◌, ◌≢◌, ◌==◌, ◌∙◌, ℕ, zero, suc, ◌+◌, ◌/◌, ◌%◌, ◌^◌, ◌<◌, ◌≤◌, Bool, true, false, cond, List, [], ◌∷◌, ◌++◌, decimal, refl, sym, ap, arith}
use Rattle.std.specs.Prelude.{All, nat_lt}
use Rattle.std.specs.Fmt.{digits, digits_onto, digit_glyph}
use Rattle.std.specs.Str.Parse.{digits_value}
use Rattle.std.proofs.lemmas.Fmt.{decimal_is_IsNumeral_wide}
use Rattle.std.proofs.lemmas.List.Elements.{All-cons, All-nil, All-weaker}
use Rattle.serve_text.specs.Texts.{line_feed}
use Rattle.serve_text.specs.Determined.{HasNoLineFeed}

-- what stands before the first stop, and what stands behind it
module _ {X : Type 0} (stop : X) where
  pub first_stop : (xs ys us vs : List X) → All (λ x. x ≢ stop) xs → All (λ x. x ≢ stop) ys → xs ++ stop ∷ us ≡ ys ++ stop ∷ vs → (xs ≡ ys) × (us ≡ vs)
  first_stop [] [] us vs p q e = let whole : stop ∷ us ≡ stop ∷ vs = e in (refl, cc)
  first_stop [] (y ∷ ys) us vs p q e = let whole : stop ∷ us ≡ y ∷ (ys ++ stop ∷ vs) = e in absurd (q 0 y (omega arith) (cc))
  first_stop (x ∷ xs) [] us vs p q e = let whole : x ∷ (xs ++ stop ∷ us) ≡ stop ∷ vs = e in absurd (p 0 x (omega arith) (cc))
  first_stop (x ∷ xs) (y ∷ ys) us vs p q e =
      let whole : x ∷ (xs ++ stop ∷ us) ≡ y ∷ (ys ++ stop ∷ vs) = e in
      let first : x ≡ y = cc in
      let later : xs ++ stop ∷ us ≡ ys ++ stop ∷ vs = cc in
      let rest = first_stop xs ys us vs (λ k d h. p (suc k) d (omega (arith, h))) (λ k d h. q (suc k) d (omega (arith, h))) later in
      ((λ i. first i ∷ rest.0 i), rest.1)

-- digits are 48 and above
glyph_above : (a b : Bool) (d : ℕ) → 48 ≤ cond a (48 + d) (cond b (55 + d) (87 + d))
glyph_above true b d = omega arith
glyph_above false true d = omega arith
glyph_above false false d = omega arith

either_above : (b : Bool) (xs ys : List ℕ) → All (λ x. 48 ≤ x) xs → All (λ x. 48 ≤ x) ys → All (λ x. 48 ≤ x) (cond b xs ys)
either_above true xs ys p q = p
either_above false xs ys p q = q

digits_above : (k n : ℕ) (acc : List ℕ) → All (λ x. 48 ≤ x) acc → All (λ x. 48 ≤ x) (digits_onto k 10 false n acc)
digits_above zero n acc above = above
digits_above (suc k) n acc above =
    let more : All (λ x. 48 ≤ x) (digit_glyph false (n % 10) ∷ acc) = All-cons (λ x. 48 ≤ x) (digit_glyph false (n % 10)) acc (glyph_above (nat_lt (n % 10) 10) false (n % 10)) above in
    either_above (n / 10 == 0) (digit_glyph false (n % 10) ∷ acc) (digits_onto k 10 false (n / 10) (digit_glyph false (n % 10) ∷ acc)) more (digits_above k (n / 10) _ more)

decimal_above : (n : ℕ) → All (λ x. 48 ≤ x) (decimal n)
unfolding digits
decimal_above n = digits_above 64 n [] (All-nil (λ x. 48 ≤ x))

-- no lesser byte is among them
decimal_lacks : (stop n : ℕ) → stop < 48 → All (λ b. b ≢ stop) (decimal n)
decimal_lacks stop n low = All-weaker (λ b. 48 ≤ b) (λ b. b ≢ stop) (λ b above same. omega (arith, low, above, same)) (decimal n) (decimal_above n)

-- so a decimal number is within one line
pub decimal_in_line : (n : ℕ) → HasNoLineFeed (decimal n)
decimal_in_line n = decimal_lacks line_feed n (omega arith)

decimal_tells : (m n : ℕ) → m < 10 ^ 64 → n < 10 ^ 64 → decimal m ≡ decimal n → m ≡ n
decimal_tells m n p q e = sym (decimal_is_IsNumeral_wide m p).1 ∙ ap (digits_value 10) e ∙ (decimal_is_IsNumeral_wide n q).1

-- a number up to such a byte, and what stands behind it
pub number_before : (stop m n : ℕ) (us vs : List ℕ) → stop < 48 → m < 10 ^ 64 → n < 10 ^ 64 → decimal m ++ stop ∷ us ≡ decimal n ++ stop ∷ vs → (m ≡ n) × (us ≡ vs)
number_before stop m n us vs low p q e =
    let split = first_stop stop (decimal m) (decimal n) us vs (decimal_lacks stop m low) (decimal_lacks stop n low) e in
    (decimal_tells m n p q split.0, split.1)
