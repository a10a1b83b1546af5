-- The sums of Adler-32, of bytes that are parted, and under the modulus.
use Rattle.std.proofs.Common.{◌≡◌, ℕ, ◌+◌, ◌-◌, ◌*◌, ◌%◌, ◌<◌, ◌≤◌, List, [], ◌∷◌, ◌++◌, length, take, drop, get_or, sum, refl, sym, ap, ap₂, ◌∙◌, arith, zero-add, add-zero, add_assoc, lit<, take-append-drop}
use Rattle.std.proofs.lemmas.Nat.{mul-mod_first}
use Rattle.std.proofs.lemmas.List.{drop_more, take_more, drop_all, drop-drop}
use Rattle.std.proofs.lemmas.List.Sums.{sum_by-append}
use Rattle.std.proofs.Math.Nat.{mod-add-mod, add-mod-mod, mod-eq_of_lt}
use Rattle.entry_bytes.specs.Adler.{adler32, sum_of_sums}

-- a running sum that begins higher is higher at each byte
sums_from : (running : ℕ) (bs : List ℕ) → sum_of_sums running bs ≡ running * length bs + sum_of_sums 0 bs
sums_from running [] = omega arith
sums_from running (b ∷ bs) = grind (arith, sums_from (running + b) bs, sums_from b bs)

sum-cons : (a : ℕ) (xs : List ℕ) → sum (a ∷ xs) ≡ a + sum xs
sum-cons a xs = sum_by-append (λ n. n) (a ∷ []) xs ∙ ap (λ n. n + sum xs) (one a)
  where
    one : (a : ℕ) → sum (a ∷ []) ≡ a
    one a = omega arith

pub sums-append : (running : ℕ) (xs bs : List ℕ) → sum_of_sums running (xs ++ bs) ≡ sum_of_sums running xs + sum_of_sums (running + sum xs) bs
sums-append running [] bs = sym (ap (λ n. 0 + sum_of_sums n bs) (add-zero running) ∙ zero-add (sum_of_sums running bs))
sums-append running (a ∷ xs) bs =
    let begins : running + a + sum xs ≡ running + sum (a ∷ xs) = omega (arith, sum-cons a xs) in
    let rest : sum_of_sums (running + a) (xs ++ bs) ≡ sum_of_sums (running + a) xs + sum_of_sums (running + sum (a ∷ xs)) bs = sums-append (running + a) xs bs ∙ ap (λ n. sum_of_sums (running + a) xs + sum_of_sums n bs) begins in
    ap (λ n. (running + a) + n) rest ∙ sym (add_assoc (running + a) (sum_of_sums (running + a) xs) (sum_of_sums (running + sum (a ∷ xs)) bs))

sum-append : (xs bs : List ℕ) → sum (xs ++ bs) ≡ sum xs + sum bs
sum-append xs bs = sum_by-append (λ n. n) xs bs

-- one more byte of a run
pub run_more : (bs : List ℕ) (i low high wanted : ℕ) → i < length bs → high + sum_of_sums low (drop i bs) ≡ wanted → (high + (low + get_or bs i 0)) + sum_of_sums (low + get_or bs i 0) (drop (i + 1) bs) ≡ wanted
run_more bs i low high wanted inside is =
    omega (arith, ap (sum_of_sums low) (drop_more bs i 0 inside), is)

pub sum_more : (bs : List ℕ) (i : ℕ) → i < length bs → sum (take (i + 1) bs) ≡ sum (take i bs) + get_or bs i 0
sum_more bs i inside = ap sum (take_more bs i 0 inside) ∙ sum-append (take i bs) (get_or bs i 0 ∷ []) ∙ omega arith

-- a run of bytes, added up and reduced, before the others
low_reduced : (low : ℕ) (run rest : List ℕ) (m : ℕ) → ((low + sum run) % m + sum rest) % m ≡ (low + sum (run ++ rest)) % m
low_reduced low run rest m =
    mod-add-mod (low + sum run) m (sum rest) ∙ ap (λ n. n % m) (omega (arith, sum-append run rest))

times_reduced : (x y n m : ℕ) → (x + y % m * n) % m ≡ (x + y * n) % m
times_reduced x y n m = sym (add-mod-mod x (y % m * n) m) ∙ ap (λ k. (x + k) % m) (mul-mod_first y n m) ∙ add-mod-mod x (y * n) m

high_reduced : (low high : ℕ) (run rest : List ℕ) (m : ℕ) → ((high + sum_of_sums low run) % m + sum_of_sums ((low + sum run) % m) rest) % m ≡ (high + sum_of_sums low (run ++ rest)) % m
high_reduced low high run rest m =
    let whole = high + sum_of_sums low run in
    let running = low + sum run in
    let first : (whole % m + sum_of_sums (running % m) rest) % m ≡ (whole + sum_of_sums (running % m) rest) % m = mod-add-mod whole m (sum_of_sums (running % m) rest) in
    let parts : whole + sum_of_sums (running % m) rest ≡ (whole + sum_of_sums 0 rest) + running % m * length rest = omega (arith, sums_from (running % m) rest) in
    let back : (whole + sum_of_sums 0 rest) + running * length rest ≡ high + sum_of_sums low (run ++ rest) = omega (arith, sums_from running rest, sums-append low run rest) in
    first ∙ ap (λ n. n % m) parts ∙ times_reduced (whole + sum_of_sums 0 rest) running (length rest) m ∙ ap (λ n. n % m) back

-- the sums of the bytes so far, and what the others add to them
pub record AreSums (low high at : ℕ) (bs : List ℕ) : Type 0 where
  pub low_is : (low + sum (drop at bs)) % 65521 ≡ (1 + sum bs) % 65521
  pub high_is : (high + sum_of_sums low (drop at bs)) % 65521 ≡ sum_of_sums 1 bs % 65521
  pub low_below : low < 65521
  pub high_below : high < 65521

pub sums_first : (bs : List ℕ) → AreSums 1 0 0 bs
sums_first bs = record { low_is = refl; high_is = ap (λ n. n % 65521) (zero-add (sum_of_sums 1 bs)); low_below = lit< tt; high_below = lit< tt }

pub sums_next : (low high at end : ℕ) (bs : List ℕ) (run : List ℕ) (low' high' : ℕ) → AreSums low high at bs → drop at bs ≡ run ++ drop end bs
    → low' ≡ (low + sum run) % 65521 → high' ≡ (high + sum_of_sums low run) % 65521 → low' < 65521 → high' < 65521 → AreSums low' high' end bs
sums_next low high at end bs run low' high' s parted low_is high_is lb hb =
    let parts = drop end bs in
    record {
      low_is = ap (λ n. (n + sum parts) % 65521) low_is ∙ low_reduced low run parts 65521 ∙ ap (λ t. (low + sum t) % 65521) (sym parted) ∙ s.low_is;
      high_is = ap₂ (λ l h. (h + sum_of_sums l parts) % 65521) low_is high_is ∙ high_reduced low high run parts 65521 ∙ ap (λ t. (high + sum_of_sums low t) % 65521) (sym parted) ∙ s.high_is;
      low_below = lb;
      high_below = hb;
    }

pub sums_done : (low high at : ℕ) (bs : List ℕ) → AreSums low high at bs → length bs ≤ at → high * 65536 + low ≡ adler32 bs
unfolding adler32
sums_done low high at bs s past =
    let none : drop at bs ≡ [] = drop_all at bs past in
    let low_is : low ≡ (1 + sum bs) % 65521 = sym (mod-eq_of_lt s.low_below) ∙ ap (λ n. n % 65521) (sym (add-zero low)) ∙ ap (λ t. (low + sum t) % 65521) (sym none) ∙ s.low_is in
    let high_is : high ≡ sum_of_sums 1 bs % 65521 = sym (mod-eq_of_lt s.high_below) ∙ ap (λ n. n % 65521) (sym (add-zero high)) ∙ ap (λ t. (high + sum_of_sums low t) % 65521) (sym none) ∙ s.high_is in
    omega (arith, low_is, high_is)

-- a run from one place to another, and what comes after
pub parted : (bs : List ℕ) (at end : ℕ) → at ≤ end → drop at bs ≡ take (end - at) (drop at bs) ++ drop end bs
parted bs at end order =
    let place : at + (end - at) ≡ end = omega arith in
    sym (take-append-drop (end - at) (drop at bs)) ∙ ap (λ t. take (end - at) (drop at bs) ++ t) (drop-drop (end - at) at bs ∙ ap (λ k. drop k bs) place)

pub sums_run : (low high at end : ℕ) (bs : List ℕ) (low' high' : ℕ) → AreSums low high at bs
    → low' ≡ (low + sum (take (end - at) (drop at bs))) % 65521 → high' ≡ (high + sum_of_sums low (take (end - at) (drop at bs))) % 65521 → low' < 65521 → high' < 65521 → at ≤ end → AreSums low' high' end bs
sums_run low high at end bs low' high' s low_is high_is lb hb order =
    sums_next low high at end bs (take (end - at) (drop at bs)) low' high' s (parted bs at end order) low_is high_is lb hb
