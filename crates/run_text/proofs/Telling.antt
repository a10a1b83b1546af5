-- The lines of reads: what they tell is told by the text.
use Rattle.std.proofs.Common.{◌≡◌, ◌≢◌, ◌∙◌, ℕ, zero, suc, ◌<◌, ◌-◌, List, [], ◌∷◌, ◌++◌, length, get_or, map, take, drop, decimal, refl, sym, ap, subst, arith, append_assoc}
use Rattle.std.specs.Prelude.{All}
use Rattle.std.specs.List.{flat_map}
use Rattle.std.specs.Int.{IsInRange}
use Rattle.std.proofs.lemmas.Fmt.{digits_decimal}
use Rattle.std.proofs.lemmas.Str.Parse.{numerals_by_value, tells_by_index}
use Rattle.std.proofs.Math.Seq.{take-length}
use Rattle.std.proofs.lemmas.List.{append_cancel_left, append-nil, map-append, length-map}
use Rattle.std.proofs.lemmas.Grind.{flat_map-append}
use Rattle.std.proofs.lemmas.List.Elements.{All-append, All-cons, All-nil, All-from_get_or, All-map, All-push}
use Rattle.serve_text.specs.Texts.{comma, line_feed, reply_head}
use Rattle.serve_text.specs.Determined.{HasNoLineFeed}
use Rattle.serve_text.proofs.Decimals.{first_stop, number_before, decimal_in_line}
use Rattle.run_text.specs.Forms.{Told, told_line, IsNumber}
use Rattle.run_text.specs.Parts.{TellsOne, TellsReads, TellsThis, TellsThese}

pub tails : (x : ℕ) (xs ys : List ℕ) → x ∷ xs ≡ x ∷ ys → xs ≡ ys
tails x xs ys e = cc

module _ {X : Type 0} (P : X → Type 0) where
  pub all_front : (xs ys : List X) → All P (xs ++ ys) → All P xs
  all_front [] ys all = All-nil P
  all_front (x ∷ xs) ys all = All-cons P x xs (all 0 x (omega arith)) (all_front xs ys (λ k d h. all (suc k) d (omega (arith, h))))

  pub all_back : (xs ys : List X) → All P (xs ++ ys) → All P ys
  all_back [] ys all = all
  all_back (x ∷ xs) ys all = all_back xs ys (λ k d h. all (suc k) d (omega (arith, h)))

-- a text without a value has no place for it
pub never_within : {X : Type 0} (stop : X) (text xs ys : List X) → All (λ x. x ≢ stop) text → text ≡ xs ++ stop ∷ ys → ⊥
never_within {X} stop text xs ys none is =
    let rest : All (λ x. x ≢ stop) (stop ∷ ys) = all_back (λ x. x ≢ stop) xs (stop ∷ ys) (subst (All (λ x. x ≢ stop)) is none) in
    rest 0 stop (omega arith) refl

-- the head of a line
pub head_in_line : (place : ℕ) (letter : ℕ) (rest : List ℕ) → letter ≢ line_feed → HasNoLineFeed rest → HasNoLineFeed (letter ∷ comma ∷ (decimal place ++ comma ∷ rest))
head_in_line place letter rest other in_line =
    All-cons (λ b. b ≢ line_feed) letter (comma ∷ (decimal place ++ comma ∷ rest)) other
    (All-cons (λ b. b ≢ line_feed) comma (decimal place ++ comma ∷ rest) (omega arith)
    (All-append (λ b. b ≢ line_feed) (decimal place) (comma ∷ rest) (decimal_in_line place) (All-cons (λ b. b ≢ line_feed) comma rest (omega arith) in_line)))

-- what stands behind one head
pub behind_same : (place letter : ℕ) (a b : List ℕ) → letter ∷ comma ∷ (decimal place ++ comma ∷ a) ≡ letter ∷ comma ∷ (decimal place ++ comma ∷ b) → a ≡ b
behind_same place letter a b e =
    tails comma a b (append_cancel_left (decimal place) (comma ∷ a) (comma ∷ b)
    (tails comma (decimal place ++ comma ∷ a) (decimal place ++ comma ∷ b) (tails letter (comma ∷ (decimal place ++ comma ∷ a)) (comma ∷ (decimal place ++ comma ∷ b)) e)))

-- a line of a read, with its feed and what stands behind it
pub told_before : (place number : ℕ) (text rest : List ℕ) → (reply_head place number ++ (text ++ line_feed ∷ [])) ++ rest
    ≡ (114 ∷ comma ∷ (decimal place ++ comma ∷ (decimal number ++ comma ∷ text))) ++ line_feed ∷ rest
told_before place number text rest = simp append_assoc

-- what a line tells
pub record IsLineOf (place number : ℕ) (line : List ℕ) : Type 0 where
  pub answer : List ℕ
  pub in_line : HasNoLineFeed answer
  pub is : line ≡ 114 ∷ comma ∷ (decimal place ++ comma ∷ (decimal number ++ comma ∷ answer))

number_in_line : (number : ℕ) (answer : List ℕ) → HasNoLineFeed answer → HasNoLineFeed (decimal number ++ comma ∷ answer)
number_in_line number answer in_line = All-append (λ b. b ≢ line_feed) (decimal number) (comma ∷ answer) (decimal_in_line number) (All-cons (λ b. b ≢ line_feed) comma answer (omega arith) in_line)

module _ (place number : ℕ) (text line rest other : List ℕ) (in_line : HasNoLineFeed line) (is : text ≡ line ++ line_feed ∷ rest) (tells : TellsOne place number text other) where
  whole : line ++ line_feed ∷ rest ≡ (114 ∷ comma ∷ (decimal place ++ comma ∷ (decimal number ++ comma ∷ tells.answer))) ++ line_feed ∷ other
  whole = sym is ∙ tells.is ∙ told_before place number tells.answer other

  parts : (line ≡ 114 ∷ comma ∷ (decimal place ++ comma ∷ (decimal number ++ comma ∷ tells.answer))) × (rest ≡ other)
  parts = first_stop line_feed line (114 ∷ comma ∷ (decimal place ++ comma ∷ (decimal number ++ comma ∷ tells.answer))) rest other in_line
      (head_in_line place 114 (decimal number ++ comma ∷ tells.answer) (omega arith) (number_in_line number tells.answer tells.in_line)) whole

  pub line_told : IsLineOf place number line
  line_told = record { answer = tells.answer; in_line = tells.in_line; is = parts.0 }

  pub rest_told : rest ≡ other
  rest_told = parts.1

pub none_told : (place number : ℕ) (text other : List ℕ) → HasNoLineFeed text → ¬ (TellsOne place number text other)
none_told place number text other none tells = never_within line_feed text (114 ∷ comma ∷ (decimal place ++ comma ∷ (decimal number ++ comma ∷ tells.answer))) other none (tells.is ∙ told_before place number tells.answer other)

-- a line with its parts
pub told_by_parts : (place number : ℕ) (text line rest behind answer : List ℕ) → HasNoLineFeed line → text ≡ line ++ line_feed ∷ rest
    → line ≡ 114 ∷ comma ∷ (decimal place ++ comma ∷ behind) → behind ≡ decimal number ++ comma ∷ answer → IsNumber number → TellsThis (record { place = place; number = number; answer = answer }) text rest
told_by_parts place number text line rest behind answer in_line is head tail small =
    let all : line ≡ 114 ∷ comma ∷ (decimal place ++ comma ∷ (decimal number ++ comma ∷ answer)) = head ∙ ap (λ (l : List ℕ). 114 ∷ comma ∷ (decimal place ++ comma ∷ l)) tail in
    let lines : HasNoLineFeed (114 ∷ comma ∷ (decimal place ++ comma ∷ (decimal number ++ comma ∷ answer))) = subst HasNoLineFeed all in_line in
    let later : HasNoLineFeed (decimal place ++ comma ∷ (decimal number ++ comma ∷ answer)) = λ k d h. lines (suc (suc k)) d (omega (arith, h)) in
    let behind_in_line : HasNoLineFeed (comma ∷ (decimal number ++ comma ∷ answer)) = all_back (λ b. b ≢ line_feed) (decimal place) (comma ∷ (decimal number ++ comma ∷ answer)) later in
    let number_line : HasNoLineFeed (decimal number ++ comma ∷ answer) = λ k d h. behind_in_line (suc k) d (omega (arith, h)) in
    let last : HasNoLineFeed (comma ∷ answer) = all_back (λ b. b ≢ line_feed) (decimal number) (comma ∷ answer) number_line in
    record {
      fits = small;
      in_line = λ k d h. last (suc k) d (omega (arith, h));
      is = is ∙ ap (λ (l : List ℕ). l ++ line_feed ∷ rest) all ∙ sym (told_before place number answer rest);
    }

-- the first line tells one number
pub one_told : (place m n : ℕ) (text us vs : List ℕ) → IsNumber m → IsNumber n → TellsOne place m text us → TellsOne place n text vs → (m ≡ n) × (us ≡ vs)
one_told place m n text us vs p q a b =
    let lines : HasNoLineFeed (114 ∷ comma ∷ (decimal place ++ comma ∷ (decimal m ++ comma ∷ a.answer))) =
    head_in_line place 114 (decimal m ++ comma ∷ a.answer) (omega arith) (number_in_line m a.answer a.in_line) in
    let is : text ≡ (114 ∷ comma ∷ (decimal place ++ comma ∷ (decimal m ++ comma ∷ a.answer))) ++ line_feed ∷ us = a.is ∙ told_before place m a.answer us in
    let line = line_told place n text (114 ∷ comma ∷ (decimal place ++ comma ∷ (decimal m ++ comma ∷ a.answer))) us vs lines is b in
    let same : decimal m ++ comma ∷ a.answer ≡ decimal n ++ comma ∷ line.answer = behind_same place 114 (decimal m ++ comma ∷ a.answer) (decimal n ++ comma ∷ line.answer) line.is in (
      (number_before comma m n a.answer line.answer (omega arith) (omega (arith, p)) (omega (arith, q)) same).0,
      rest_told place n text (114 ∷ comma ∷ (decimal place ++ comma ∷ (decimal m ++ comma ∷ a.answer))) us vs lines is b,
    )

digits_within : (n : ℕ) → IsNumber n → (i : ℕ) → i < length (decimal n) → IsInRange 48 57 (get_or (decimal n) i 0)
digits_within n small = digits_decimal (numerals_by_value (λ (ds : List ℕ). (i : ℕ) → i < length ds → IsInRange 48 57 (get_or ds i 0)) tells_by_index) n small

decimal_lacks_comma : (n : ℕ) → IsNumber n → All (λ b. b ≢ comma) (decimal n)
decimal_lacks_comma n small = All-from_get_or (λ b. b ≢ comma) (decimal n) 0 (λ i h same. let within = digits_within n small i h in omega (arith, within.0, same))

-- digits up to a comma
pub digits_before : (n : ℕ) (digits answer behind other : List ℕ) → IsNumber n → All (λ b. b ≢ comma) digits → behind ≡ digits ++ comma ∷ answer → behind ≡ decimal n ++ comma ∷ other → digits ≡ decimal n
digits_before n digits answer behind other small none is tells =
    (first_stop comma digits (decimal n) answer other none (decimal_lacks_comma n small) (sym is ∙ tells)).0

-- what stands behind the first two
pub tail_of : (line : List ℕ) (a b : ℕ) (xs : List ℕ) → line ≡ a ∷ b ∷ xs → take (length line - 2) (drop 2 line) ≡ xs
tail_of line a b xs is =
    let count : length (a ∷ b ∷ xs) - 2 ≡ length xs = omega arith in
    subst (λ (l : List ℕ). take (length l - 2) (drop 2 l) ≡ xs) (sym is) (ap (λ (n : ℕ). take n xs) count ∙ take-length xs)

pub one_decimal : (m n : ℕ) → IsNumber m → IsNumber n → decimal m ≡ decimal n → m ≡ n
one_decimal m n p q e = (number_before comma m n [] [] (omega arith) (omega (arith, p)) (omega (arith, q)) (ap (λ (l : List ℕ). l ++ comma ∷ []) e)).0

-- lists of lines
abbrev pub places_in : List Told → List ℕ
places_in told = map (λ (t : Told). t.place) told

abbrev pub numbers_in : List Told → List ℕ
numbers_in told = map (λ (t : Told). t.number) told

abbrev pub AreInLine : List Told → Type 0
AreInLine told = All (λ (t : Told). HasNoLineFeed t.answer) told

told_one : (t : Told) (text rest : List ℕ) → HasNoLineFeed t.answer → text ≡ told_line t ++ rest → TellsOne t.place t.number text rest
told_one t text rest in_line is = record { answer = t.answer; in_line = in_line; is = is }

told_of : (t : Told) (ts : List Told) (rest : List ℕ) → flat_map told_line (t ∷ ts) ++ rest ≡ told_line t ++ (flat_map told_line ts ++ rest)
told_of t ts rest = append_assoc (told_line t) (flat_map told_line ts) rest

pub same_told : (a b : List Told) (us vs : List ℕ) → places_in a ≡ places_in b → All IsNumber (numbers_in a) → All IsNumber (numbers_in b) → AreInLine a → AreInLine b
    → flat_map told_line a ++ us ≡ flat_map told_line b ++ vs → (numbers_in a ≡ numbers_in b) × (us ≡ vs)
same_told [] [] us vs places p q al bl is = (refl, is)
same_told [] (t ∷ b) us vs places p q al bl is = absurd (let z : [] ≡ t.place ∷ places_in b = places in cc)
same_told (t ∷ a) [] us vs places p q al bl is = absurd (let z : t.place ∷ places_in a ≡ [] = places in cc)
same_told (t ∷ a) (u ∷ b) us vs places p q al bl is =
    let z : t.place ∷ places_in a ≡ u.place ∷ places_in b = places in
    let place : t.place ≡ u.place = cc in
    let later : places_in a ≡ places_in b = cc in
    let first : TellsOne t.place t.number (flat_map told_line (t ∷ a) ++ us) (flat_map told_line a ++ us) = told_one t (flat_map told_line (t ∷ a) ++ us) (flat_map told_line a ++ us) (al 0 t (omega arith)) (told_of t a us) in
    let second : TellsOne t.place u.number (flat_map told_line (t ∷ a) ++ us) (flat_map told_line b ++ vs) =
    subst (λ (n : ℕ). TellsOne n u.number (flat_map told_line (t ∷ a) ++ us) (flat_map told_line b ++ vs)) (sym place) (told_one u (flat_map told_line (t ∷ a) ++ us) (flat_map told_line b ++ vs) (bl 0 u (omega arith)) (is ∙ told_of u b vs)) in
    let one = one_told t.place t.number u.number (flat_map told_line (t ∷ a) ++ us) (flat_map told_line a ++ us) (flat_map told_line b ++ vs) (p 0 0 (omega arith)) (q 0 0 (omega arith)) first second in
    let rest = same_told a b us vs later (λ k d h. p (suc k) d (omega (arith, h))) (λ k d h. q (suc k) d (omega (arith, h))) (λ k d h. al (suc k) d (omega (arith, h))) (λ k d h. bl (suc k) d (omega (arith, h))) one.1 in
    ((λ i. one.0 i ∷ rest.0 i), rest.1)

-- two readings of one text
pub same_reads : (places ms ns text us vs : List ℕ) → TellsReads places ms text us → TellsReads places ns text vs → (ms ≡ ns) × (us ≡ vs)
same_reads places ms ns text us vs a b =
    let same = same_told a.told b.told us vs (a.places_are ∙ sym b.places_are) (subst (All IsNumber) (sym a.numbers_are) a.fit) (subst (All IsNumber) (sym b.numbers_are) b.fit) a.in_line b.in_line (sym a.is ∙ b.is) in
    (sym a.numbers_are ∙ same.0 ∙ b.numbers_are, same.1)

pub tells_none : (text : List ℕ) → TellsReads [] [] text text
tells_none text = record { told = []; places_are = refl; numbers_are = refl; fit = All-nil IsNumber; in_line = All-nil (λ (t : Told). HasNoLineFeed t.answer); is = refl }

-- one more line
pub these_more : (places : List ℕ) (told next : List Told) (text rest later : List ℕ) (place : ℕ) (t : Told) → t.place ≡ place → next ≡ told ++ t ∷ [] → TellsThese places told text rest → TellsThis t rest later
    → TellsThese (places ++ place ∷ []) next text later
these_more places told next text rest later place t same longer a one =
    subst (λ (l : List Told). TellsThese (places ++ place ∷ []) l text later) (sym longer) (record {
      places_are = map-append (λ (u : Told). u.place) told (t ∷ []) ∙ (λ i. a.places_are i ++ same i ∷ []);
      fit = All-push (λ (u : Told). IsNumber u.number) told t a.fit one.fits;
      in_line = All-push (λ (u : Told). HasNoLineFeed u.answer) told t a.in_line one.in_line;
      is = a.is ∙ ap (λ (l : List ℕ). flat_map told_line told ++ l) (one.is ∙ ap (λ (l : List ℕ). l ++ later) (sym (append-nil (told_line t))))
          ∙ sym (append_assoc (flat_map told_line told) (flat_map told_line (t ∷ [])) later)
          ∙ ap (λ (l : List ℕ). l ++ later) (sym (flat_map-append told_line told (t ∷ [])));
    })

pub none_yet : (text : List ℕ) → TellsThese [] [] text text
none_yet text = record { places_are = refl; fit = All-nil (λ (t : Told). IsNumber t.number); in_line = All-nil (λ (t : Told). HasNoLineFeed t.answer); is = refl }

pub these_reads : (places : List ℕ) (told : List Told) (text rest : List ℕ) → TellsThese places told text rest → TellsReads places (numbers_in told) text rest
these_reads places told text rest a = record { told = told; places_are = a.places_are; numbers_are = refl; fit = All-map IsNumber (λ (t : Told). t.number) told a.fit; in_line = a.in_line; is = a.is }

-- the line at a place of a reading
pub record TellsAt (i : ℕ) (places ns text : List ℕ) : Type 0 where
  pub rest : List ℕ
  pub later : List ℕ
  pub front : TellsReads (take i places) (take i ns) text rest
  pub here : TellsOne (get_or places i 0) (get_or ns i 0) rest later

tells_at_in : (i : ℕ) (told : List Told) (text tail : List ℕ) → i < length told → All IsNumber (numbers_in told) → AreInLine told → text ≡ flat_map told_line told ++ tail → TellsAt i (places_in told) (numbers_in told) text
tells_at_in i [] text tail h p in_line is = absurd (omega (arith, h))
tells_at_in zero (t ∷ ts) text tail h p in_line is = record {
  rest = text;
  later = flat_map told_line ts ++ tail;
  front = tells_none text;
  here = told_one t text (flat_map told_line ts ++ tail) (in_line 0 t (omega arith)) (is ∙ told_of t ts tail);
}
tells_at_in (suc i) (t ∷ ts) text tail h p in_line is =
    let w = tells_at_in i ts (flat_map told_line ts ++ tail) tail (omega (arith, h)) (λ k d inside. p (suc k) d (omega (arith, inside))) (λ k d inside. in_line (suc k) d (omega (arith, inside))) refl in
    record {
      rest = w.rest;
      later = w.later;
      front = record {
        told = t ∷ w.front.told;
        places_are = ap (λ (l : List ℕ). t.place ∷ l) w.front.places_are;
        numbers_are = ap (λ (l : List ℕ). t.number ∷ l) w.front.numbers_are;
        fit = All-cons IsNumber t.number (take i (numbers_in ts)) (p 0 0 (omega arith)) w.front.fit;
        in_line = All-cons (λ (u : Told). HasNoLineFeed u.answer) t w.front.told (in_line 0 t (omega arith)) w.front.in_line;
        is = is ∙ told_of t ts tail ∙ ap (λ (l : List ℕ). told_line t ++ l) w.front.is ∙ sym (told_of t w.front.told w.rest);
      };
      here = w.here;
    }

pub tells_at : (i : ℕ) (places ns text tail : List ℕ) → i < length places → TellsReads places ns text tail → TellsAt i places ns text
tells_at i places ns text tail h a =
    let inside : i < length a.told = omega (arith, h, ap length a.places_are, length-map a.told (λ (t : Told). t.place)) in
    subst (λ (l : List ℕ). TellsAt i l ns text) a.places_are
    (subst (λ (l : List ℕ). TellsAt i (places_in a.told) l text) a.numbers_are (tells_at_in i a.told text tail inside (subst (All IsNumber) (sym a.numbers_are) a.fit) a.in_line a.is))

-- where the next line tells no number, no reading goes on
pub tells_no_more : (i : ℕ) (places found ns text rest tail : List ℕ) → i < length places
    → TellsReads (take i places) found text rest
    → ((n : ℕ) (later : List ℕ) → IsNumber n → ¬ (TellsOne (get_or places i 0) n rest later)) → ¬ (TellsReads places ns text tail)
tells_no_more i places found ns text rest tail h so_far none a =
    let w = tells_at i places ns text tail h a in
    let count : length ns ≡ length places = sym (ap length a.numbers_are) ∙ length-map a.told (λ (t : Told). t.number) ∙ sym (length-map a.told (λ (t : Told). t.place)) ∙ ap length a.places_are in
    let same = same_reads (take i places) found (take i ns) text rest w.rest so_far w.front in
    none (get_or ns i 0) w.later (a.fit i 0 (omega (arith, h, count))) (subst (λ (l : List ℕ). TellsOne (get_or places i 0) (get_or ns i 0) l w.later) (sym same.1) w.here)
