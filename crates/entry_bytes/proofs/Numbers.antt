-- Bytes where a number should be: so many with the top bit, and then one without, or none.
use Rattle.std.proofs.Common.{◌≡◌, ℕ, zero, suc, ◌+◌, ◌-◌, ◌*◌, ◌/◌, ◌%◌, ◌^◌, ◌<◌, ◌≤◌, List, [], ◌∷◌, ◌++◌, length, drop, get_or, refl, sym, ap, ◌∙◌, arith, inl, inr, lit<, lit≤, append-nil, length-append, length-drop}
use Rattle.std.proofs.lemmas.Bool.{cases_lt}
use Rattle.std.proofs.lemmas.Bool.Decides.{nat_tests}
use Rattle.std.proofs.lemmas.List.{drop_more, drop_all, drop_at, drop-drop, get_or_at}
use Rattle.std.proofs.Math.Nat.{pow-suc, pow-le-pow_right}
use Rattle.gap_code.specs.Leb.{leb, number_of, BeginsWith}
use Rattle.gap_code.specs.LebLaws.{leb_small, leb_large, leb_some, number_of-leb}
use Rattle.entry_bytes.specs.Faults.{IsCut, NoNumber}
use Rattle.entry_bytes.specs.Reads.{IsRead}

-- so many bytes with the top bit come first
abbrev pub IsRun : ℕ → List ℕ → Type 0
IsRun zero bs = Unit {0}
IsRun (suc run) [] = ⊥
IsRun (suc run) (b ∷ bs) = (128 ≤ b) × (b < 256) × IsRun run bs

pub run_of : (run : ℕ) (bs : List ℕ) → run ≤ length bs → ((k : ℕ) → k < run → 128 ≤ get_or bs k 0) → ((k : ℕ) → get_or bs k 0 < 256) → IsRun run bs
run_of zero bs h high small = tt
run_of (suc run) [] h high small = absurd (omega arith)
run_of (suc run) (b ∷ bs) h high small = (high 0 (omega arith), small 0, run_of run bs (omega arith) (λ k lt. high (suc k) (omega arith)) (λ k. small (suc k)))

run-append : (run : ℕ) (bs more : List ℕ) → IsRun run bs → IsRun run (bs ++ more)
run-append zero bs more r = tt
run-append (suc run) [] more r = absurd r
run-append (suc run) (b ∷ bs) more r = (r.0, r.1, run-append run bs more r.2)

-- a run and a byte without the top bit are a number, whose last byte is not 0 where there are others
pub record IsWhole (run : ℕ) (bs : List ℕ) (last : ℕ) : Type 0 where
  pub is : bs ≡ leb (number_of bs) ++ drop (suc run) bs
  pub bound : number_of bs < 128 ^ run * (last + 1)
  pub some : 0 < last → 0 < number_of bs

number_last : (b : ℕ) (bs : List ℕ) → b < 128 → number_of (b ∷ bs) ≡ b
number_last b bs low = grind (arith, nat_tests)

number_more : (b : ℕ) (bs : List ℕ) → 128 ≤ b → number_of (b ∷ bs) ≡ (b - 128) + 128 * number_of bs
number_more b bs high = grind (arith, nat_tests)

more_bound : (n b power last : ℕ) → n < power * (last + 1) → b < 256 → (b - 128) + 128 * n < power * 128 * (last + 1)
more_bound n b power last below small =
    let products : power * 128 * (last + 1) ≡ 128 * (power * (last + 1)) = omega arith in
    omega arith

whole_last : (b : ℕ) (bs : List ℕ) → b < 128 → IsWhole 0 (b ∷ bs) b
whole_last b bs low =
    let n : number_of (b ∷ bs) ≡ b = number_last b bs low in
    record {
      is = sym (ap (λ m. leb m ++ bs) n ∙ ap (λ t. t ++ bs) (leb_small b low));
      bound = omega arith;
      some = λ h. omega arith;
    }

whole_more : (run b : ℕ) (bs : List ℕ) (last : ℕ) → 128 ≤ b → b < 256 → 0 < last → IsWhole run bs last → IsWhole (suc run) (b ∷ bs) last
whole_more run b bs last high small pos w =
    let n : number_of (b ∷ bs) ≡ (b - 128) + 128 * number_of bs = number_more b bs high in
    let more : 0 < number_of bs = w.some pos in
    let bound : number_of bs < 128 ^ run * (last + 1) = w.bound in
    let low_bits : 128 + number_of (b ∷ bs) % 128 ≡ b = omega arith in
    let high_bits : number_of (b ∷ bs) / 128 ≡ number_of bs = omega arith in
    let bytes : leb (number_of (b ∷ bs)) ≡ b ∷ leb (number_of bs) = leb_large (number_of (b ∷ bs)) (omega arith) ∙ ap (λ m. m ∷ leb (number_of (b ∷ bs) / 128)) low_bits ∙ ap (λ m. b ∷ leb m) high_bits in
    let power : 128 ^ suc run ≡ 128 ^ run * 128 = pow-suc 128 run in
    let wider : (b - 128) + 128 * number_of bs < 128 ^ run * 128 * (last + 1) = more_bound (number_of bs) b (128 ^ run) last bound small in
    record {
      is = ap (λ t. b ∷ t) w.is ∙ sym (ap (λ t. t ++ drop (suc run) bs) bytes);
      bound = rw power (omega arith);
      some = λ h. omega arith;
    }

pub whole : (run : ℕ) (bs : List ℕ) (last : ℕ) → IsRun run bs → run < length bs → last ≡ get_or bs run 0 → last < 128 → (0 < run → 0 < last) → IsWhole run bs last
whole zero [] last r inside is low pos = absurd (omega arith)
whole zero (b ∷ bs) last r inside is low pos = rw is (whole_last b bs (omega arith))
whole (suc run) [] last r inside is low pos = absurd r
whole (suc run) (b ∷ bs) last r inside is low pos =
    let some : 0 < last = pos (omega arith) in
    whole_more run b bs last r.0 r.1 some (whole run bs last r.2 (omega arith) is low (λ _. some))

-- a number that fits stands at a run of less than ten bytes
pub record IsHere (bs : List ℕ) (run : ℕ) : Type 0 where
  pub fits : number_of bs < 2 ^ 64
  pub is : bs ≡ leb (number_of bs) ++ drop (suc run) bs

fits_short : (n run last : ℕ) → n < 128 ^ run * (last + 1) → run < 9 → last < 128 → n < 2 ^ 64
fits_short n run last below short low =
    let power : 128 ^ run ≤ 128 ^ 8 = pow-le-pow_right {n = 128} (lit< tt) {i = run} {j = 8} (omega arith) in
    let product : 128 ^ run * (last + 1) ≤ 128 ^ 8 * 128 = grind arith in
    let most : 128 ^ 8 * 128 < 2 ^ 64 = lit< tt in
    omega arith

fits_long : (n run last : ℕ) → n < 128 ^ run * (last + 1) → run ≡ 9 → last < 2 → n < 2 ^ 64
fits_long n run last below is low =
    let power : 128 ^ run ≡ 128 ^ 9 = ap (λ k. 128 ^ k) is in
    let product : 128 ^ run * (last + 1) ≤ 128 ^ 9 * 2 = grind arith in
    let most : 128 ^ 9 * 2 ≤ 2 ^ 64 = lit≤ tt in
    omega arith

pub here : (run : ℕ) (bs : List ℕ) (last : ℕ) → IsRun run bs → run < length bs → last ≡ get_or bs run 0 → last < 128 → run < 10 → (0 < run → 0 < last) → (run ≡ 9 → last < 2) → IsHere bs run
here run bs last r inside is low short pos long =
    let w = whole run bs last r inside is low pos in
    record {
      fits = elim (cases_lt run 9) [ inl h ↦ fits_short (number_of bs) run last w.bound h low | inr h ↦ fits_long (number_of bs) run last w.bound (omega arith) (long (omega arith)) ];
      is = w.is;
    }

-- the bytes are all of a run of less than ten
pub cut : (run : ℕ) (bs : List ℕ) → IsRun run bs → length bs ≡ run → run < 10 → IsCut bs
cut run bs r all short =
    let len : length (bs ++ 1 ∷ []) ≡ run + 1 = omega (arith, length-append bs (1 ∷ [])) in
    let h : IsHere (bs ++ 1 ∷ []) run = here run (bs ++ 1 ∷ []) 1 (run-append run bs (1 ∷ []) r) (omega arith) (sym (get_or_at bs 1 [] 0 run all)) (lit< tt) short (λ _. lit< tt) (λ _. lit< tt) in
    let none : drop (suc run) (bs ++ 1 ∷ []) ≡ [] = drop_all (suc run) (bs ++ 1 ∷ []) (omega arith) in
    record {
      number = number_of (bs ++ 1 ∷ []);
      missing = 1 ∷ [];
      fits = h.fits;
      some = lit< tt;
      is = h.is ∙ ap (λ t. leb (number_of (bs ++ 1 ∷ [])) ++ t) none ∙ append-nil (leb (number_of (bs ++ 1 ∷ [])));
    }

-- the bytes of a number begin with a run: what is left of it behind them
pub record IsSplit (run : ℕ) (bs more others : List ℕ) (n : ℕ) : Type 0 where
  pub left : ℕ
  pub is : drop run bs ++ more ≡ leb left ++ others
  pub large : 128 ^ run * left ≤ n
  pub some : 0 < n → 0 < left
  pub high : 0 < run → 128 ≤ n

split_more : (run b n : ℕ) (bs more others : List ℕ) → 128 ≤ n → IsSplit run bs more others (n / 128) → IsSplit (suc run) (b ∷ bs) more others n
split_more run b n bs more others high s =
    let power : 128 ^ suc run ≡ 128 ^ run * 128 = pow-suc 128 run in
    let l = s.large in
    let products : 128 ^ run * 128 * s.left ≡ 128 * (128 ^ run * s.left) = omega arith in
    record {
      left = s.left;
      is = s.is;
      large = rw power (omega arith);
      some = λ h. s.some (omega arith);
      high = λ h. high;
    }

pub split : (run : ℕ) (bs more others : List ℕ) (n : ℕ) → IsRun run bs → bs ++ more ≡ leb n ++ others → IsSplit run bs more others n
split zero bs more others n r is = record { left = n; is = is; large = omega arith; some = λ h. h; high = λ h. absurd (omega arith) }
split (suc run) [] more others n r is = absurd r
split (suc run) (b ∷ bs) more others n r is =
    elim (cases_lt n 128) [
      | inl small ↦
          let all : b ∷ (bs ++ more) ≡ n ∷ others = is ∙ ap (λ t. t ++ others) (leb_small n small) in
          let head : b ≡ n = cc in
          absurd (omega (arith, r.0))
      | inr large ↦
          let all : b ∷ (bs ++ more) ≡ (128 + n % 128) ∷ (leb (n / 128) ++ others) = is ∙ ap (λ t. t ++ others) (leb_large n large) in
          split_more run b n bs more others large (split run bs more others (n / 128) r.2 cc)
    ]

head_small : (b left : ℕ) (bs others : List ℕ) → b < 128 → b ∷ bs ≡ leb left ++ others → left ≡ b
head_small b left bs others low is =
    elim (cases_lt left 128) [
      | inl small ↦
          let all : b ∷ bs ≡ left ∷ others = is ∙ ap (λ t. t ++ others) (leb_small left small) in
          cc
      | inr large ↦
          let all : b ∷ bs ≡ (128 + left % 128) ∷ (leb (left / 128) ++ others) = is ∙ ap (λ t. t ++ others) (leb_large left large) in
          let head : b ≡ 128 + left % 128 = cc in
          absurd (omega arith)
    ]

pub too_long : (run : ℕ) (bs : List ℕ) → run ≡ 10 → IsRun run bs → NoNumber bs
too_long run bs ten r n more others fits is =
    let s = split run bs more others n r is in
    let power : 128 ^ run ≡ 128 ^ 10 = ap (λ k. 128 ^ k) ten in
    let large : 128 ^ run * s.left ≤ n = s.large in
    let high : 128 ≤ n = s.high (omega arith) in
    let some : 0 < s.left = s.some (omega arith) in
    let product : 128 ^ 10 ≤ 128 ^ run * s.left = grind arith in
    let most : 2 ^ 64 ≤ 128 ^ 10 = lit≤ tt in
    omega arith

last_left : (run : ℕ) (bs more others : List ℕ) (n last : ℕ) → (s : IsSplit run bs more others n) → run < length bs → last ≡ get_or bs run 0 → last < 128 → s.left ≡ last
last_left run bs more others n last s inside is low =
    let parts : get_or bs run 0 ∷ (drop (run + 1) bs ++ more) ≡ leb s.left ++ others = ap (λ t. t ++ more) (sym (drop_more bs run 0 inside)) ∙ s.is in
    let small : get_or bs run 0 < 128 = omega arith in
    head_small (get_or bs run 0) s.left (drop (run + 1) bs ++ more) others small parts ∙ sym is

pub zero_last : (run : ℕ) (bs : List ℕ) → IsRun run bs → run < length bs → 0 ≡ get_or bs run 0 → 0 < run → NoNumber bs
zero_last run bs r inside is some n more others fits eq =
    let s = split run bs more others n r eq in
    let left : s.left ≡ 0 = last_left run bs more others n 0 s inside is (lit< tt) in
    let high : 128 ≤ n = s.high some in
    let positive : 0 < s.left = s.some (omega arith) in
    omega arith

pub large_last : (run : ℕ) (bs : List ℕ) (last : ℕ) → IsRun run bs → run < length bs → last ≡ get_or bs run 0 → last < 128 → run ≡ 9 → 1 < last → NoNumber bs
large_last run bs last r inside is low nine big n more others fits eq =
    let s = split run bs more others n r eq in
    let left : s.left ≡ last = last_left run bs more others n last s inside is low in
    let power : 128 ^ run ≡ 128 ^ 9 = ap (λ k. 128 ^ k) nine in
    let large : 128 ^ run * s.left ≤ n = s.large in
    let product : 128 ^ 9 * 2 ≤ 128 ^ run * s.left = grind arith in
    let most : 2 ^ 64 ≤ 128 ^ 9 * 2 = lit≤ tt in
    omega arith

-- what stands there is read
pub begins : (run : ℕ) (bs : List ℕ) → IsHere bs run → BeginsWith (λ n. n < 2 ^ 64) leb bs
begins run bs h = record { value = number_of bs; others = drop (suc run) bs; fits = h.fits; is = h.is }

pub read_is : (bytes : List ℕ) (at number after : ℕ) → BeginsWith (λ n. n < 2 ^ 64) leb (drop at bytes) → number ≡ number_of (drop at bytes) → after ≡ at + length (leb (number_of (drop at bytes))) → IsRead bytes at number after
read_is bytes at number after b number_is after_is =
    let value : number_of (drop at bytes) ≡ b.value = ap number_of b.is ∙ number_of-leb b.value b.others in
    let same : number ≡ b.value = number_is ∙ value in
    let len : length (leb (number_of (drop at bytes))) ≡ length (leb b.value) = ap (λ n. length (leb n)) value in
    let place : after ≡ at + length (leb b.value) = omega arith in
    let past : drop after bytes ≡ b.others = ap (λ n. drop n bytes) place ∙ sym (drop-drop (length (leb b.value)) at bytes) ∙ ap (drop (length (leb b.value))) b.is ∙ drop_at (leb b.value) b.others (length (leb b.value)) refl in
    record {
      fits = rw same b.fits;
      is = b.is ∙ ap (λ n. leb n ++ b.others) (sym same) ∙ ap (λ t. leb number ++ t) (sym past);
      within = omega (arith, place, ap length b.is, length-append (leb b.value) b.others, length-drop at bytes, leb_some b.value);
    }
