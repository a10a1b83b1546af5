-- The lines of batches, and the last line.
use Rattle.std.proofs.Common.{◌≡◌, ◌≢◌, ◌∙◌, ℕ, suc, ◌+◌, List, [], ◌∷◌, ◌++◌, length, decimal, refl, sym, ap, subst, arith, append_assoc}
use Rattle.std.specs.Prelude.{All, codes, Bool, true, false, IsTrue, Option, Some, None, is_some}
use Rattle.std.specs.List.{flat_map}
use Rattle.std.specs.Option.{MatchOption}
use denote.Ref.{Bor}
use Rattle.std.proofs.lemmas.List.{append-nil}
use Rattle.std.proofs.lemmas.List.Elements.{All-cons, All-map}
use Rattle.serve_text.specs.Texts.{comma, last_text, line_feed, order_line}
use Rattle.serve_text.specs.Determined.{HasNoLineFeed}
use Rattle.serve_text.proofs.Decimals.{first_stop, number_before, decimal_in_line}
use Rattle.run_text.specs.Forms.{HasForm, Tells, Told, told_line, IsNumber, numbers_text}
use Rattle.run_text.specs.Parts.{TellsReads, TellsThese}
use Rattle.run_text.proofs.Telling.{head_in_line, behind_same, never_within, all_back, same_reads}

-- a batch's line, with its feed and what stands behind it
pub batch_before : (place number : ℕ) (rest : List ℕ) → order_line place number ++ rest ≡ (106 ∷ comma ∷ (decimal place ++ comma ∷ decimal number)) ++ line_feed ∷ rest
batch_before place number rest = simp append_assoc

batch_in_line : (place number : ℕ) → HasNoLineFeed (106 ∷ comma ∷ (decimal place ++ comma ∷ decimal number))
batch_in_line place number = head_in_line place 106 (decimal number) (omega arith) (decimal_in_line number)

pub no_batch : (place number : ℕ) (text other : List ℕ) → HasNoLineFeed text → text ≢ order_line place number ++ other
no_batch place number text other none is = never_within line_feed text (106 ∷ comma ∷ (decimal place ++ comma ∷ decimal number)) other none (is ∙ batch_before place number other)

-- a line of a batch and what stands behind it
pub batch_parts : (place number : ℕ) (text line rest other : List ℕ) → HasNoLineFeed line → text ≡ line ++ line_feed ∷ rest → text ≡ order_line place number ++ other
    → (line ≡ 106 ∷ comma ∷ (decimal place ++ comma ∷ decimal number)) × (rest ≡ other)
batch_parts place number text line rest other in_line is tells =
    first_stop line_feed line (106 ∷ comma ∷ (decimal place ++ comma ∷ decimal number)) rest other in_line (batch_in_line place number) (sym is ∙ tells ∙ batch_before place number other)

pub batch_by_parts : (place number : ℕ) (text line rest digits : List ℕ) → text ≡ line ++ line_feed ∷ rest → line ≡ 106 ∷ comma ∷ (decimal place ++ comma ∷ digits) → digits ≡ decimal number
    → text ≡ order_line place number ++ rest
batch_by_parts place number text line rest digits is head tail =
    is ∙ ap (λ (l : List ℕ). l ++ line_feed ∷ rest) (head ∙ ap (λ (l : List ℕ). 106 ∷ comma ∷ (decimal place ++ comma ∷ l)) tail) ∙ sym (batch_before place number rest)

pub one_batch : (place m n : ℕ) (us vs : List ℕ) → IsNumber m → IsNumber n → order_line place m ++ us ≡ order_line place n ++ vs → (m ≡ n) × (us ≡ vs)
one_batch place m n us vs p q is =
    let parts = batch_parts place n (order_line place m ++ us) (106 ∷ comma ∷ (decimal place ++ comma ∷ decimal m)) us vs (batch_in_line place m) (batch_before place m us) is in
    let digits : decimal m ≡ decimal n = behind_same place 106 (decimal m) (decimal n) parts.0 in
    let stopped : decimal m ++ line_feed ∷ us ≡ decimal n ++ line_feed ∷ vs = (λ i. digits i ++ line_feed ∷ parts.1 i) in
    number_before line_feed m n us vs (omega arith) (omega (arith, p)) (omega (arith, q)) stopped

pub numbers_more : (place n : ℕ) (ns : List ℕ) → numbers_text place (ns ++ n ∷ []) ≡ numbers_text place ns ++ order_line (place + length ns) n
numbers_more place n [] = append-nil (order_line place n) ∙ ap (λ (k : ℕ). order_line k n) (let q : place ≡ place + 0 = omega arith in q)
numbers_more place n (m ∷ ns) =
    ap (λ (l : List ℕ). order_line place m ++ l) (numbers_more (place + 1) n ns ∙ ap (λ (k : ℕ). numbers_text (place + 1) ns ++ order_line k n) (let q : place + 1 + length ns ≡ place + suc (length ns) = omega arith in q))
    ∙ sym (append_assoc (order_line place m) (numbers_text (place + 1) ns) (order_line (place + length (m ∷ ns)) n))

pub batches_more : (text rest later : List ℕ) (n : ℕ) (ns : List ℕ) → text ≡ numbers_text 1 ns ++ rest → rest ≡ order_line (length ns + 1) n ++ later → text ≡ numbers_text 1 (ns ++ n ∷ []) ++ later
batches_more text rest later n ns is more =
    is ∙ ap (λ (l : List ℕ). numbers_text 1 ns ++ l) (more ∙ ap (λ (k : ℕ). order_line k n ++ later) (let q : length ns + 1 ≡ 1 + length ns = omega arith in q))
    ∙ sym (append_assoc (numbers_text 1 ns) (order_line (1 + length ns) n) later) ∙ ap (λ (l : List ℕ). l ++ later) (sym (numbers_more 1 n ns))

heads : (x y : ℕ) (xs ys : List ℕ) → x ∷ xs ≡ y ∷ ys → x ≡ y
heads x y xs ys e = cc

-- one order of numbers before a last line
pub same_order_text : (place : ℕ) (order numbers totals rest : List ℕ) → All IsNumber order → All IsNumber numbers
    → numbers_text place order ++ last_text totals ≡ numbers_text place numbers ++ rest
    → ((n : ℕ) (later : List ℕ) → IsNumber n → rest ≢ order_line (place + length numbers) n ++ later) → (order ≡ numbers) × (rest ≡ last_text totals)
same_order_text place [] [] totals rest p q is stop = (refl, sym is)
same_order_text place (m ∷ order) [] totals rest p q is stop =
    absurd (stop m (numbers_text (place + 1) order ++ last_text totals) (p 0 0 (omega arith))
    (sym is ∙ append_assoc (order_line place m) (numbers_text (place + 1) order) (last_text totals)
    ∙ ap (λ (k : ℕ). order_line k m ++ (numbers_text (place + 1) order ++ last_text totals)) (let e : place ≡ place + 0 = omega arith in e)))
same_order_text place [] (n ∷ numbers) totals rest p q is stop =
    let other : last_text totals ≡ (106 ∷ comma ∷ (decimal place ++ comma ∷ decimal n)) ++ line_feed ∷ (numbers_text (place + 1) numbers ++ rest) =
    is ∙ append_assoc (order_line place n) (numbers_text (place + 1) numbers) rest ∙ batch_before place n (numbers_text (place + 1) numbers ++ rest) in
    let same : 102 ≡ 106 = heads 102 106 (105 ∷ 110 ∷ 97 ∷ 108 ∷ 44 ∷ (totals ++ line_feed ∷ [])) ((comma ∷ (decimal place ++ comma ∷ decimal n)) ++ line_feed ∷ (numbers_text (place + 1) numbers ++ rest)) other in
    absurd (omega (arith, same))
same_order_text place (m ∷ order) (n ∷ numbers) totals rest p q is stop =
    let line = one_batch place m n (numbers_text (place + 1) order ++ last_text totals) (numbers_text (place + 1) numbers ++ rest) (p 0 0 (omega arith)) (q 0 0 (omega arith))
    (sym (append_assoc (order_line place m) (numbers_text (place + 1) order) (last_text totals)) ∙ is ∙ append_assoc (order_line place n) (numbers_text (place + 1) numbers) rest) in
    let further = same_order_text (place + 1) order numbers totals rest (λ k d h. p (suc k) d (omega (arith, h))) (λ k d h. q (suc k) d (omega (arith, h))) line.1
    (λ k later small e. stop k later small (e ∙ ap (λ (j : ℕ). order_line j k ++ later) (let r : place + 1 + length numbers ≡ place + suc (length numbers) = omega arith in r))) in
    ((λ i. line.0 i ∷ further.0 i), further.1)

-- a last line
pub last_line : (text line totals : List ℕ) → HasNoLineFeed line → text ≡ line ++ line_feed ∷ [] → line ≡ codes "final," ++ totals → HasNoLineFeed totals × (text ≡ last_text totals)
last_line text line totals in_line is head = (
  all_back (λ b. b ≢ line_feed) (codes "final,") totals (subst HasNoLineFeed head in_line),
  is ∙ ap (λ (l : List ℕ). l ++ line_feed ∷ []) head ∙ append_assoc (codes "final,") totals (line_feed ∷ []),
)

final_in_line : (totals : List ℕ) → HasNoLineFeed totals → HasNoLineFeed (codes "final," ++ totals)
final_in_line totals in_line =
    All-cons (λ b. b ≢ line_feed) 102 (105 ∷ 110 ∷ 97 ∷ 108 ∷ 44 ∷ totals) (omega arith)
    (All-cons (λ b. b ≢ line_feed) 105 (110 ∷ 97 ∷ 108 ∷ 44 ∷ totals) (omega arith)
    (All-cons (λ b. b ≢ line_feed) 110 (97 ∷ 108 ∷ 44 ∷ totals) (omega arith)
    (All-cons (λ b. b ≢ line_feed) 97 (108 ∷ 44 ∷ totals) (omega arith)
    (All-cons (λ b. b ≢ line_feed) 108 (44 ∷ totals) (omega arith)
    (All-cons (λ b. b ≢ line_feed) 44 totals (omega arith) in_line)))))

pub last_parts : (text line rest totals : List ℕ) → HasNoLineFeed line → text ≡ line ++ line_feed ∷ rest → HasNoLineFeed totals → text ≡ last_text totals → (line ≡ codes "final," ++ totals) × (rest ≡ [])
last_parts text line rest totals in_line is totals_in_line last =
    first_stop line_feed line (codes "final," ++ totals) rest [] in_line (final_in_line totals totals_in_line)
    (sym is ∙ last ∙ sym (append_assoc (codes "final,") totals (line_feed ∷ [])))

pub no_last : (text totals : List ℕ) → HasNoLineFeed text → text ≢ last_text totals
no_last text totals none is = never_within line_feed text (codes "final," ++ totals) [] none (is ∙ sym (append_assoc (codes "final,") totals (line_feed ∷ [])))

-- whether a line with its feed is a last line
abbrev pub IsLast : List ℕ → Type 0
IsLast text = (totals : List ℕ) × HasNoLineFeed totals × (text ≡ last_text totals)

pub last_answer : (text line rest : List ℕ) (r : Option (Bor (List ℕ))) (is : Bool) → HasNoLineFeed line → text ≡ line ++ line_feed ∷ rest → rest ≡ []
    → MatchOption r ((t : List ℕ) → line ≢ codes "final," ++ t) (λ x. line ≡ codes "final," ++ x.now) → is ≡ is_some r → (IsTrue is → IsLast text) × (IsLast text → IsTrue is)
last_answer text line rest None is in_line whole none found same = (
  λ yes. absurd (let z : false ≡ true = sym same ∙ yes in cc),
  λ last. absurd (found last.0 (last_parts text line rest last.0 in_line whole last.1 last.2).0),
)
last_answer text line rest (Some x) is in_line whole none found same =
    let one = last_line text line x.now in_line (whole ∙ ap (λ (l : List ℕ). line ++ line_feed ∷ l) none) found in
    (λ yes. (x.now, one.0, one.1), λ last. same)

pub not_last : (text line rest : List ℕ) → HasNoLineFeed line → text ≡ line ++ line_feed ∷ rest → rest ≢ [] → ¬ (IsLast text)
not_last text line rest in_line whole more last = more (last_parts text line rest last.0 in_line whole last.1 last.2).1

-- the parts make a whole, and a whole has the parts
pub whole_told : (places : List ℕ) (told : List Told) (order text told_rest rest : List ℕ) → TellsThese places told text told_rest → told_rest ≡ numbers_text 1 order ++ rest → All IsNumber order → IsLast rest → Tells places told order rest text
whole_told places told order text told_rest rest reads batches fit last = record {
  form = record {
    told = told;
    totals = last.0;
    places_are = reads.places_are;
    numbers_are = refl;
    is = reads.is ∙ ap (λ (l : List ℕ). flat_map told_line told ++ l) (batches ∙ ap (λ (l : List ℕ). numbers_text 1 order ++ l) last.2);
    fit = All-map IsNumber (λ (t : Told). t.number) told reads.fit;
    order_fits = fit;
    answers_in_line = reads.in_line;
    totals_in_line = last.1;
  };
  told_is = refl;
  last_is = sym last.2;
}

pub form_reads : (places numbers order text : List ℕ) → (form : HasForm places numbers order text) → TellsReads places numbers text (numbers_text 1 order ++ last_text form.totals)
form_reads places numbers order text form = record { told = form.told; places_are = form.places_are; numbers_are = form.numbers_are; fit = form.fit; in_line = form.answers_in_line; is = form.is }

pub form_last : (places ms ns found order text told_rest rest : List ℕ) → HasForm places ns order text → TellsReads places ms text told_rest → told_rest ≡ numbers_text 1 found ++ rest → All IsNumber found
    → ((n : ℕ) (later : List ℕ) → IsNumber n → rest ≢ order_line (1 + length found) n ++ later) → IsLast rest
form_last places ms ns found order text told_rest rest form reads batches fit stop =
    let same = same_reads places ms ns text told_rest (numbers_text 1 order ++ last_text form.totals) reads (form_reads places ns order text form) in
    let ends = same_order_text 1 order found form.totals rest form.order_fits fit (sym same.1 ∙ batches) stop in
    (form.totals, form.totals_in_line, ends.1)

no_order : (totals : List ℕ) (place n : ℕ) (later : List ℕ) → last_text totals ≢ order_line place n ++ later
no_order totals place n later is =
    let other : last_text totals ≡ (106 ∷ comma ∷ (decimal place ++ comma ∷ decimal n)) ++ line_feed ∷ later = is ∙ batch_before place n later in
    let same : 102 ≡ 106 = heads 102 106 (105 ∷ 110 ∷ 97 ∷ 108 ∷ 44 ∷ (totals ++ line_feed ∷ [])) ((comma ∷ (decimal place ++ comma ∷ decimal n)) ++ line_feed ∷ later) other in
    omega (arith, same)

-- a text has its form in one way
pub one_form : (places ms ns first second text : List ℕ) → HasForm places ms first text → HasForm places ns second text → (ms ≡ ns) × (first ≡ second)
one_form places ms ns first second text a b =
    let reads = same_reads places ms ns text (numbers_text 1 first ++ last_text a.totals) (numbers_text 1 second ++ last_text b.totals) (form_reads places ms first text a) (form_reads places ns second text b) in
    let orders = same_order_text 1 first second a.totals (last_text b.totals) a.order_fits b.order_fits reads.1 (λ n later small. no_order b.totals (1 + length second) n later) in
    (reads.0, orders.0)
