-- The bytes of a number, as they are read one by one.
use Rattle.std.proofs.Common.{◌≡◌, ℕ, ◌+◌, ◌-◌, ◌*◌, ◌/◌, ◌%◌, ◌^◌, ◌<◌, ◌≤◌, List, ◌∷◌, ◌++◌, length, drop, get_or, sym, ap, ◌∙◌, arith, inl, inr, length-append, length-drop}
use Rattle.std.proofs.lemmas.Bool.{cases_lt}
use Rattle.std.proofs.lemmas.List.{drop_more}
use Rattle.gap_code.specs.Leb.{leb, number_of, BeginsWith}
use Rattle.gap_code.specs.LebLaws.{leb_small, leb_large, leb_some, number_of-leb}

-- a byte below 128 is the whole number, another gives its low seven bits
pub record IsLast (n : ℕ) (byte : ℕ) (rest others : List ℕ) : Type 0 where
  pub number : n ≡ byte
  pub one : length (leb n) ≡ 1
  pub after : rest ≡ others

pub record IsMore (n : ℕ) (byte : ℕ) (rest others : List ℕ) : Type 0 where
  pub number : n ≡ (byte - 128) + 128 * (n / 128)
  pub some : 0 < n / 128
  pub longer : length (leb n) ≡ length (leb (n / 128)) + 1
  pub after : rest ≡ leb (n / 128) ++ others

last_cell : (n byte : ℕ) (rest others : List ℕ) → byte ∷ rest ≡ leb n ++ others → byte < 128 → IsLast n byte rest others
last_cell n byte rest others is low =
    elim (cases_lt n 128) [
      | inl small ↦
          let whole : byte ∷ rest ≡ n ∷ others = is ∙ ap (λ t. t ++ others) (leb_small n small) in
          record { number = cc; one = ap length (leb_small n small); after = cc }
      | inr large ↦
          let whole : byte ∷ rest ≡ (128 + n % 128) ∷ (leb (n / 128) ++ others) = is ∙ ap (λ t. t ++ others) (leb_large n large) in
          let head : byte ≡ 128 + n % 128 = cc in
          absurd (omega arith)
    ]

more_cell : (n byte : ℕ) (rest others : List ℕ) → byte ∷ rest ≡ leb n ++ others → 128 ≤ byte → IsMore n byte rest others
more_cell n byte rest others is high =
    elim (cases_lt n 128) [
      | inl small ↦
          let whole : byte ∷ rest ≡ n ∷ others = is ∙ ap (λ t. t ++ others) (leb_small n small) in
          let head : byte ≡ n = cc in
          absurd (omega arith)
      | inr large ↦
          let whole : byte ∷ rest ≡ (128 + n % 128) ∷ (leb (n / 128) ++ others) = is ∙ ap (λ t. t ++ others) (leb_large n large) in
          let head : byte ≡ 128 + n % 128 = cc in
          record { number = omega arith; some = omega arith; longer = omega (arith, ap length (leb_large n large)); after = cc }
    ]

-- the same, at a place in some bytes
module _ (from : List ℕ) (at n : ℕ) (others : List ℕ) (is : drop at from ≡ leb n ++ others) where
  pub number_inside : at + length (leb n) ≤ length from
  number_inside = omega (arith, ap length is, length-append (leb n) others, length-drop at from, leb_some n)

  cell : get_or from at 0 ∷ drop (at + 1) from ≡ leb n ++ others
  cell = sym (drop_more from at 0 (omega (arith, number_inside, leb_some n))) ∙ is

  pub is_last : get_or from at 0 < 128 → IsLast n (get_or from at 0) (drop (at + 1) from) others
  is_last low = last_cell n _ _ others cell low

  pub is_more : 128 ≤ get_or from at 0 → IsMore n (get_or from at 0) (drop (at + 1) from) others
  is_more high = more_cell n _ _ others cell high

-- a number is being read: so much of it has been, and the rest stands at a place
pub record IsReading (from : List ℕ) (start at value scale : ℕ) : Type 0 where
  pub left : ℕ
  pub others : List ℕ
  pub is : drop at from ≡ leb left ++ others
  pub whole : number_of (drop start from) ≡ value + scale * left
  pub fits : value + scale * left < 2 ^ 64
  pub after : at + length (leb left) ≡ start + length (leb (number_of (drop start from)))

pub reading_first : (from : List ℕ) (at : ℕ) → BeginsWith (λ n. n < 2 ^ 64) leb (drop at from) → IsReading from at at 0 1
reading_first from at b =
    let n : number_of (drop at from) ≡ b.value = ap number_of b.is ∙ number_of-leb b.value b.others in
    let f = b.fits in
    record { left = b.value; others = b.others; is = b.is; whole = omega arith; fits = omega arith; after = ap (λ m. at + length (leb m)) (sym n) }

parts : (value scale low high left : ℕ) → left ≡ low + 128 * high → value + scale * left ≡ value + low * scale + scale * 128 * high
parts value scale low high left is = rw is (omega arith)

scaled : (scale high : ℕ) → 0 < high → scale * 128 ≤ scale * 128 * high
scaled scale high some = grind arith

pub record IsNext (from : List ℕ) (start at value scale byte : ℕ) : Type 0 where
  pub low_fits : value + (byte - 128) * scale < 2 ^ 64
  pub scale_fits : scale * 128 < 2 ^ 64
  pub inside : at < length from
  pub next : IsReading from start (at + 1) (value + (byte - 128) * scale) (scale * 128)

pub reading_next : (from : List ℕ) (start at value scale : ℕ) → IsReading from start at value scale → 128 ≤ get_or from at 0 → IsNext from start at value scale (get_or from at 0)
reading_next from start at value scale r high =
    let more = is_more from at r.left r.others r.is high in
    let split : value + scale * r.left ≡ value + (get_or from at 0 - 128) * scale + scale * 128 * (r.left / 128) = parts value scale (get_or from at 0 - 128) (r.left / 128) r.left more.number in
    let big : scale * 128 ≤ scale * 128 * (r.left / 128) = scaled scale (r.left / 128) more.some in
    let f = r.fits in
    let w = r.whole in
    record {
      low_fits = omega arith;
      scale_fits = omega arith;
      inside = omega (arith, number_inside from at r.left r.others r.is, leb_some r.left);
      next = record { left = r.left / 128; others = r.others; is = more.after; whole = omega arith; fits = omega arith; after = omega (arith, more.longer, r.after) };
    }

pub record IsDone (from : List ℕ) (start at value scale byte : ℕ) : Type 0 where
  pub product_fits : byte * scale < 2 ^ 64
  pub fits : value + byte * scale < 2 ^ 64
  pub value_is : value + byte * scale ≡ number_of (drop start from)
  pub after : at + 1 ≡ start + length (leb (number_of (drop start from)))

pub reading_done : (from : List ℕ) (start at value scale : ℕ) → IsReading from start at value scale → get_or from at 0 < 128 → IsDone from start at value scale (get_or from at 0)
reading_done from start at value scale r low =
    let last = is_last from at r.left r.others r.is low in
    let split : value + scale * r.left ≡ value + get_or from at 0 * scale = rw (last.number) (omega arith) in
    let f = r.fits in
    let w = r.whole in
    record { product_fits = omega arith; fits = omega arith; value_is = omega arith; after = omega (arith, last.one, r.after) }

pub reading_inside : (from : List ℕ) (start at value scale : ℕ) → IsReading from start at value scale → at < length from
reading_inside from start at value scale r = omega (arith, number_inside from at r.left r.others r.is, leb_some r.left)
