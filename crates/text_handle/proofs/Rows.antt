-- Entries written into arrays, whose keys lie in a row.
use Rattle.std.proofs.Common.{◌≡◌, ℕ, ◌+◌, ◌-◌, ◌<◌, ◌≤◌, List, [], ◌∷◌, ◌++◌, length, map, take, drop, get_or, set, sym, ap, ap₂, ◌∙◌, append_assoc, append-nil, refl, suc, arith, take-append-drop}
use Rattle.std.proofs.Math.Seq.{drop-append-add}
use Rattle.std.proofs.lemmas.List.{drop-drop, drop_more, length-append, length-drop, length-map, length-take-le, map-append, set_at, take_at, take_more}
use Rattle.std.proofs.lemmas.List.Folds.{length-flat_map-take}
use Rattle.std.proofs.lemmas.Slice.{drop-put_mid, take-put_mid}
use borrow.Rule.Slice.PartMut.{put_mid}
use Rattle.text_handle.specs.Rows.{bytes_of, ends_from}

-- the bytes and the ends of one more entry
bytes_more : (m : List (List ℕ × ℕ)) (e : List ℕ × ℕ) → bytes_of (m ++ e ∷ []) ≡ bytes_of m ++ e.0
bytes_more [] e = append-nil e.0
bytes_more (f ∷ m) e = ap (λ (bytes : List ℕ). f.0 ++ bytes) (bytes_more m e) ∙ sym (append_assoc f.0 (bytes_of m) e.0)

ends_more : (start : ℕ) (m : List (List ℕ × ℕ)) (e : List ℕ × ℕ) → ends_from start (m ++ e ∷ []) ≡ ends_from start m ++ ((start + length (bytes_of m) + length e.0) ∷ [])
ends_more start [] e =
    let none : start + length e.0 ≡ start + 0 + length e.0 = omega arith in
    ap (λ (end : ℕ). end ∷ []) none
ends_more start (f ∷ m) e =
    let long = length-append f.0 (bytes_of m) in
    let same : start + length f.0 + length (bytes_of m) + length e.0 ≡ start + length (bytes_of (f ∷ m)) + length e.0 = omega arith in
    ap (λ (ends : List ℕ). (start + length f.0) ∷ ends) (ends_more (start + length f.0) m e ∙ ap (λ (end : ℕ). ends_from (start + length f.0) m ++ end ∷ []) same)

length-ends_from : (start : ℕ) (m : List (List ℕ × ℕ)) → length (ends_from start m) ≡ length m
length-ends_from start [] = refl
length-ends_from start (e ∷ m) = ap suc (length-ends_from (start + length e.0) m)

-- items at the front of an array
laid_items : {Y : Type 0} (front room old items : List Y) (start k : ℕ) → length front ≡ start → k ≡ length items → start + k ≤ length old → room ≡ front ++ drop start old
    → put_mid start (start + k - start) room items ≡ (front ++ items) ++ drop (start + k) old
laid_items front room old items start k long size fits e =
    let same : length room ≡ length old = omega (arith, ap length e, length-append front (drop start old), length-drop start old) in
    let behind : drop (start + k) room ≡ drop (start + k) old = ap (drop (start + k)) e ∙ ap (λ n. drop n (front ++ drop start old)) (ap (λ n. n + k) (sym long)) ∙ drop-append-add front (drop start old) k ∙ drop-drop k start old in
    sym (take-append-drop (start + k) (put_mid start (start + k - start) room items))
    ∙ ap₂ (λ x y. x ++ y)
    (take-put_mid start (start + k - start) room items (start + k) (omega arith) (omega arith) ∙ ap (λ x. x ++ items) (ap (take start) e ∙ take_at front (drop start old) start long))
    (drop-put_mid start (start + k - start) room items (start + k) (omega arith) (omega arith) (omega arith) ∙ behind)

-- one more item stands in an array behind those at its front
laid_more : {Y : Type 0} (front room old : List Y) (i : ℕ) (y : Y) → length front ≡ i → i < length old → room ≡ front ++ drop i old → set room i y ≡ (front ++ y ∷ []) ++ drop (i + 1) old
laid_more {Y} front room old i y size fits e =
    let split : room ≡ front ++ get_or old i y ∷ drop (i + 1) old = e ∙ ap (λ (l : List Y). front ++ l) (drop_more old i y fits) in
    ap (λ (l : List Y). set l i y) split
    ∙ set_at front (get_or old i y) (drop (i + 1) old) y i size
    ∙ sym (append_assoc front (y ∷ []) (drop (i + 1) old))

-- one more entry
taken_more : (m : List (List ℕ × ℕ)) (i : ℕ) (e : List ℕ × ℕ) → i < length m → e ≡ get_or m i e → take (i + 1) m ≡ take i m ++ e ∷ []
taken_more m i e fits is = take_more m i e fits ∙ ap (λ x. take i m ++ x ∷ []) (sym is)

pub start_more : (m : List (List ℕ × ℕ)) (i : ℕ) (e : List ℕ × ℕ) (start : ℕ) → i < length m → e ≡ get_or m i e → start ≡ length (bytes_of (take i m)) → start + length e.0 ≡ length (bytes_of (take (i + 1) m))
start_more m i e start fits is at =
    let all : bytes_of (take (i + 1) m) ≡ bytes_of (take i m) ++ e.0 = ap bytes_of (taken_more m i e fits is) ∙ bytes_more (take i m) e in
    omega (arith, ap length all, length-append (bytes_of (take i m)) e.0)

pub entry_within : (m : List (List ℕ × ℕ)) (i : ℕ) (e : List ℕ × ℕ) (start : ℕ) → i < length m → e ≡ get_or m i e → start ≡ length (bytes_of (take i m)) → start + length e.0 ≤ length (bytes_of m)
entry_within m i e start fits is at = omega (arith, length-flat_map-take (λ (e : List ℕ × ℕ). e.0) m i e fits, ap (λ (e : List ℕ × ℕ). length e.0) is)

pub keys_more : (m : List (List ℕ × ℕ)) (i : ℕ) (e : List ℕ × ℕ) (start : ℕ) (room old : List ℕ) → i < length m → e ≡ get_or m i e → start ≡ length (bytes_of (take i m)) → start + length e.0 ≤ length old
    → room ≡ bytes_of (take i m) ++ drop start old → put_mid start (start + length e.0 - start) room e.0 ≡ bytes_of (take (i + 1) m) ++ drop (start + length e.0) old
keys_more m i e start room old fits is at within laid =
    laid_items (bytes_of (take i m)) room old e.0 start (length e.0) (sym at) refl within laid
    ∙ ap (λ bytes. bytes ++ drop (start + length e.0) old) (sym (ap bytes_of (taken_more m i e fits is) ∙ bytes_more (take i m) e))

pub ends_laid : (m : List (List ℕ × ℕ)) (i : ℕ) (e : List ℕ × ℕ) (start : ℕ) (room old : List ℕ) → i < length m → e ≡ get_or m i e → start ≡ length (bytes_of (take i m)) → length m ≤ length old
    → room ≡ ends_from 0 (take i m) ++ drop i old → set room i (start + length e.0) ≡ ends_from 0 (take (i + 1) m) ++ drop (i + 1) old
ends_laid m i e start room old fits is at within laid =
    let front = ends_from 0 (take i m) in
    let long : length front ≡ i = length-ends_from 0 (take i m) ∙ length-take-le i m (omega arith) in
    let end : 0 + length (bytes_of (take i m)) + length e.0 ≡ start + length e.0 = omega arith in
    let all : ends_from 0 (take (i + 1) m) ≡ front ++ (start + length e.0) ∷ [] = ap (ends_from 0) (taken_more m i e fits is) ∙ ends_more 0 (take i m) e ∙ ap (λ n. front ++ n ∷ []) end in
    laid_more front room old i (start + length e.0) long (omega arith) laid ∙ ap (λ ends. ends ++ drop (i + 1) old) (sym all)

pub vals_laid : (m : List (List ℕ × ℕ)) (i : ℕ) (e : List ℕ × ℕ) (room old : List ℕ) → i < length m → e ≡ get_or m i e → length m ≤ length old
    → room ≡ map (λ e. e.1) (take i m) ++ drop i old → set room i e.1 ≡ map (λ e. e.1) (take (i + 1) m) ++ drop (i + 1) old
vals_laid m i e room old fits is within laid =
    let front = map (λ (e : List ℕ × ℕ). e.1) (take i m) in
    let long : length front ≡ i = length-map (take i m) (λ (e : List ℕ × ℕ). e.1) ∙ length-take-le i m (omega arith) in
    let all : map (λ (e : List ℕ × ℕ). e.1) (take (i + 1) m) ≡ front ++ e.1 ∷ [] = ap (map (λ (e : List ℕ × ℕ). e.1)) (taken_more m i e fits is) ∙ map-append (λ (e : List ℕ × ℕ). e.1) (take i m) (e ∷ []) in
    laid_more front room old i e.1 long (omega arith) laid ∙ ap (λ vals. vals ++ drop (i + 1) old) (sym all)
