-- The first entries that fit into arrays.
use Rattle.std.proofs.Common.{◌≡◌, ℕ, zero, suc, ◌-◌, ◌<◌, ◌≤◌, Bool, true, false, cond, List, [], ◌∷◌, ◌++◌, length, nat_le, refl, sym, ap, ap₂, ◌∙◌, append_assoc, append-nil, arith}
use Rattle.std.proofs.lemmas.Bool.Decides.{nat_tests}
use Rattle.std.proofs.lemmas.List.{length-append}
use Rattle.text_handle.specs.Rows.{bytes_of, fitting}

at_most : (a b : ℕ) → nat_le a b ≡ true → a ≤ b
at_most a b h = grind (arith, nat_tests)

holds : (a b : ℕ) → a ≤ b → nat_le a b ≡ true
holds a b h = grind (arith, nat_tests)

fails : (a b : ℕ) → b < a → nat_le a b ≡ false
fails a b h = grind (arith, nat_tests)

-- the next entry fits
fits_more : (room places : ℕ) (e : List ℕ × ℕ) (m : List (List ℕ × ℕ)) → length e.0 ≤ room → fitting room (suc places) (e ∷ m) ≡ e ∷ fitting (room - length e.0) places m
fits_more room places e m h = ap (λ (b : Bool). cond b (e ∷ fitting (room - length e.0) places m) []) (holds (length e.0) room h)

-- the next entry doesn't fit
fits_no_more : (room places : ℕ) (e : List ℕ × ℕ) (m : List (List ℕ × ℕ)) → room < length e.0 → fitting room places (e ∷ m) ≡ []
fits_no_more room zero e m h = refl
fits_no_more room (suc places) e m h = ap (λ (b : Bool). cond b (e ∷ fitting (room - length e.0) places m) []) (fails (length e.0) room h)

-- of the entries that fit some are found, and the next one is among them
pub found_more : (all found : List (List ℕ × ℕ)) (room places : ℕ) (m : List (List ℕ × ℕ)) (e : List ℕ × ℕ) (rest : List (List ℕ × ℕ)) → all ≡ found ++ fitting room (places - length found) m → m ≡ e ∷ rest → length found < places → length e.0 ≤ room
    → all ≡ (found ++ e ∷ []) ++ fitting (room - length e.0) (places - length (found ++ e ∷ [])) rest
found_more all found room places m e rest is goes free fits =
    let left = places - length (found ++ e ∷ []) in
    let one_more : places - length found ≡ suc left = omega (arith, length-append found (e ∷ [])) in
    is ∙ ap₂ (λ n l. found ++ fitting room n l) one_more goes
    ∙ ap (λ l. found ++ l) (fits_more room left e rest fits)
    ∙ sym (append_assoc found (e ∷ []) (fitting (room - length e.0) left rest))

-- or there is no place for it
pub found_full : (all found : List (List ℕ × ℕ)) (room places : ℕ) (m : List (List ℕ × ℕ)) → all ≡ found ++ fitting room (places - length found) m → places ≤ length found → found ≡ all
found_full all found room places m is full =
    let none : places - length found ≡ 0 = omega arith in
    sym (is ∙ ap (λ n. found ++ fitting room n m) none ∙ append-nil found)

-- or no room for its key
pub found_short : (all found : List (List ℕ × ℕ)) (room places : ℕ) (m : List (List ℕ × ℕ)) (e : List ℕ × ℕ) (rest : List (List ℕ × ℕ)) → all ≡ found ++ fitting room places m → m ≡ e ∷ rest → room < length e.0 → found ≡ all
found_short all found room places m e rest is goes short =
    sym (is ∙ ap (λ l. found ++ fitting room places l) goes ∙ ap (λ l. found ++ l) (fits_no_more room places e rest short) ∙ append-nil found)

-- what fits has places and room
pub fitting_places : (room places : ℕ) (m : List (List ℕ × ℕ)) → length (fitting room places m) ≤ places
fitting_places room zero m = omega arith
fitting_places room (suc places) [] = omega arith
fitting_places room (suc places) (e ∷ m) = by_case (nat_le (length e.0) room) (fitting_places (room - length e.0) places m)
  where
    by_case : (b : Bool) → length (fitting (room - length e.0) places m) ≤ places → length (cond b (e ∷ fitting (room - length e.0) places m) []) ≤ suc places
    by_case true rest = omega arith
    by_case false rest = omega arith

pub fitting_room : (room places : ℕ) (m : List (List ℕ × ℕ)) → length (bytes_of (fitting room places m)) ≤ room
fitting_room room zero m = omega arith
fitting_room room (suc places) [] = omega arith
fitting_room room (suc places) (e ∷ m) = by_case (nat_le (length e.0) room) refl (fitting_room (room - length e.0) places m)
  where
    by_case : (b : Bool) → nat_le (length e.0) room ≡ b → length (bytes_of (fitting (room - length e.0) places m)) ≤ room - length e.0 → length (bytes_of (cond b (e ∷ fitting (room - length e.0) places m) [])) ≤ room
    by_case true h rest =
        let fits = at_most (length e.0) room h in
        let long = length-append e.0 (bytes_of (fitting (room - length e.0) places m)) in
        omega arith
    by_case false h rest = omega arith
