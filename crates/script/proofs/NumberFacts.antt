-- The digits of a number, one by one.
use Rattle.std.proofs.Common.{◌≡◌, ◌+◌, ◌-◌, ◌*◌, ◌^◌, ◌<◌, ◌≤◌, ℕ, List, [], ◌∷◌, Option, Some, None, true, false, refl, get_or, length, drop, arith, add-one, drop-cons}
use Rattle.std.proofs.lemmas.Bool.{le-ltb, lt-ltb}
use Rattle.std.proofs.lemmas.List.{drop_all}
use Rattle.script.proofs.Chosen.{either_way}
use Rattle.script.specs.Numbers.{digits_after, fitting, is_digit}

pub digit-next : (text : List ℕ) (i n : ℕ) → i < length text → is_digit (get_or text i 0) ≡ true
    → digits_after n (drop i text) ≡ digits_after (n * 10 + (get_or text i 0 - 48)) (drop (i + 1) text)
digit-next text i n h e = rw (add-one, drop-cons text i 0, e) refl

pub digit-none : (text : List ℕ) (i n : ℕ) → i < length text → is_digit (get_or text i 0) ≡ false → digits_after n (drop i text) ≡ None
digit-none text i n h e = rw (drop-cons text i 0, e) refl

-- more digits make a number no less
too_great : (n : ℕ) (digits : List ℕ) → 2 ^ 64 ≤ n → fitting (digits_after n digits) ≡ None
too_great n [] h = rw (le-ltb n (2 ^ 64) h) refl
too_great n (b ∷ bs) h =
    either_way (λ (o : Option ℕ). fitting o ≡ None) (is_digit b) (digits_after (n * 10 + (b - 48)) bs) None
    (too_great (n * 10 + (b - 48)) bs (omega arith)) refl

pub digits-full : (text : List ℕ) (i n m : ℕ) → i < length text → is_digit (get_or text i 0) ≡ true → digits_after m text ≡ digits_after n (drop i text)
    → 2 ^ 64 ≤ n * 10 + (get_or text i 0 - 48) → fitting (digits_after m text) ≡ None
digits-full text i n m h e is full = rw (is, digit-next text i n h e) (too_great _ (drop (i + 1) text) full)

pub digits-end : (text : List ℕ) (i n m : ℕ) → length text ≤ i → n < 2 ^ 64 → digits_after m text ≡ digits_after n (drop i text) → fitting (digits_after m text) ≡ Some n
digits-end text i n m h fits is = rw (is, drop_all i text h) (rw (lt-ltb n (2 ^ 64) fits) refl)
