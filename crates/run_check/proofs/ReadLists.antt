-- The reads of the records, one after another.
use Rattle.std.proofs.Common.{◌≡◌, ◌∙◌, ℕ, suc, ◌<◌, ◌≤◌, ◌+◌, List, [], ◌∷◌, ◌++◌, length, get_or, map, take, drop, sym, ap, subst, arith}
use Rattle.std.specs.Prelude.{All}
use Rattle.std.proofs.Math.Seq.{take-length}
use Rattle.std.proofs.lemmas.Grind.{take_at_read}
use Rattle.std.proofs.lemmas.List.{append-nil, map-append, length-append, length-map, get_or-map, take-append-drop}
use Rattle.std.proofs.lemmas.List.Elements.{All-append, All-cons, All-nil}
use Rattle.serve_text.specs.declared.record.Record.{Record}
use Rattle.serve_text.specs.declared.record.Act.{Act}
use Rattle.serve_text.specs.declared.record.Act.TheVariants.{Submit, Read}
use Rattle.serve_text.specs.Records.{Asked, Answered, read_by, reads_of}
use Rattle.serve_text.proofs.Growing.{reads_of-nil, reads_of-cons, reads_of-append}
use Rattle.run_check.specs.Reading.{HaveNumbers, asked_in, numbers_in, numbers_told}
use Rattle.run_text.specs.Forms.{Told}
use Rattle.run_check.specs.Verdicts.{places_of}
use Rattle.run_check.proofs.Keyed.{all_unmap}

module _ {O Q : Type 0} (rs : List (Record O Q)) (i : ℕ) (r : Record O Q) (inside : i < length rs) (here : r ≡ get_or rs i r) where
  abbrev own : List (Asked Q)
  own = read_by r.place r.caller r.round r.act

  pub reads_more : reads_of (take (i + 1) rs) ≡ reads_of (take i rs) ++ read_by r.place r.caller r.round r.act
  reads_more =
      ap reads_of ((take_at_read rs i r inside).1 ∙ ap (λ (x : Record O Q). take i rs ++ x ∷ []) (sym here))
      ∙ reads_of-append (take i rs) (r ∷ [])
      ∙ ap (λ (l : List (Asked Q)). reads_of (take i rs) ++ l) (reads_of-cons r [] ∙ ap (λ (l : List (Asked Q)). own ++ l) (reads_of-nil O Q) ∙ append-nil own)

  pub places_more : (now next : List ℕ) → now ≡ places_of (take i rs) → next ≡ now ++ map (λ (q : Asked Q). q.place) own → next ≡ places_of (take (i + 1) rs)
  places_more now next so_far longer =
      longer ∙ ap (λ (l : List ℕ). l ++ map (λ (q : Asked Q). q.place) own) so_far
      ∙ sym (ap (map (λ (q : Asked Q). q.place)) reads_more ∙ map-append (λ (q : Asked Q). q.place) (reads_of (take i rs)) own)

  -- there is a number for the next read
  pub enough : (count : ℕ) (reads : List (Answered Q)) → count ≡ length (places_of rs) → asked_in reads ≡ reads_of (take i rs) → length reads + length own ≤ count
  enough count reads all so_far =
      let whole : length (reads_of rs) ≡ length (reads_of (take (i + 1) rs)) + length (reads_of (drop (i + 1) rs)) =
      ap (λ (l : List (Record O Q)). length (reads_of l)) (sym (take-append-drop (i + 1) rs)) ∙ ap length (reads_of-append (take (i + 1) rs) (drop (i + 1) rs)) ∙ length-append (reads_of (take (i + 1) rs)) (reads_of (drop (i + 1) rs)) in
      let front : length (reads_of (take (i + 1) rs)) ≡ length (reads_of (take i rs)) + length own = ap length reads_more ∙ length-append (reads_of (take i rs)) own in
      let places : length (places_of rs) ≡ length (reads_of rs) = length-map (reads_of rs) (λ (q : Asked Q). q.place) in
      let mine : length reads ≡ length (reads_of (take i rs)) = sym (length-map reads (λ (a : Answered Q). a.asked)) ∙ ap length so_far in
      omega (arith, whole, front, places, mine, all)

  pub asked_more : (now next : List (Answered Q)) → asked_in now ≡ reads_of (take i rs) → asked_in next ≡ asked_in now ++ own → asked_in next ≡ reads_of (take (i + 1) rs)
  asked_more now next so_far longer = longer ∙ ap (λ (l : List (Asked Q)). l ++ own) so_far ∙ sym reads_more

-- one more read with its number
pub numbered_more : {Q : Type 0} (now next : List (Answered Q)) (numbers : List ℕ) (a : Answered Q) → length now < length numbers → a.number ≡ get_or numbers (length now) 0
    → next ≡ now ++ a ∷ [] → HaveNumbers now numbers → HaveNumbers next numbers
numbered_more {Q} now next numbers a inside here longer so_far =
    let count : length next ≡ length now + 1 = ap length longer ∙ length-append now (a ∷ []) in
    ap numbers_in longer ∙ map-append (λ (b : Answered Q). b.number) now (a ∷ []) ∙ ap (λ (l : List ℕ). l ++ a.number ∷ []) so_far
    ∙ ap (λ (n : ℕ). take (length now) numbers ++ n ∷ []) here ∙ sym (take_at_read numbers (length now) 0 inside).1
    ∙ ap (λ (n : ℕ). take n numbers) (sym count)

-- the number is that of the next line
pub numbered_told : {Q : Type 0} (now next : List (Answered Q)) (told : List Told) (t : Told) (a : Answered Q) → length now < length told → t ≡ get_or told (length now) t → a.number ≡ t.number
    → next ≡ now ++ a ∷ [] → HaveNumbers now (numbers_told told) → HaveNumbers next (numbers_told told)
numbered_told {Q} now next told t a inside here same longer so_far =
    numbered_more now next (numbers_told told) a (let z : length now < length (numbers_told told) = omega (arith, inside, length-map told (λ (u : Told). u.number)) in z)
    (same ∙ ap (λ (u : Told). u.number) here ∙ sym (get_or-map (λ (u : Told). u.number) told (length now) t 0 inside)) longer so_far

-- all reads with all numbers
pub numbered_all : {O Q : Type 0} (rs : List (Record O Q)) (i : ℕ) (reads : List (Answered Q)) (numbers : List ℕ) → i ≡ length rs → length numbers ≡ length (places_of rs)
    → asked_in reads ≡ reads_of (take i rs) → HaveNumbers reads numbers → (asked_in reads ≡ reads_of rs) × (numbers_in reads ≡ numbers)
numbered_all {O} {Q} rs i reads numbers whole count asked so_far =
    let all : asked_in reads ≡ reads_of rs = asked ∙ ap reads_of (ap (λ (n : ℕ). take n rs) whole ∙ take-length rs) in
    let mine : length reads ≡ length numbers =
    sym (length-map reads (λ (a : Answered Q). a.asked)) ∙ ap length all ∙ sym (length-map (reads_of rs) (λ (q : Asked Q). q.place)) ∙ sym count in
    (all, so_far ∙ ap (λ (n : ℕ). take n numbers) mine ∙ take-length numbers)

-- what holds of the records' callers holds of the reads'
caller_by : {O Q : Type 0} (P : ℕ → Type 0) (place caller round : ℕ) (act : Act O Q) → P caller → All (λ (q : Asked Q). P q.caller) (read_by place caller round act)
caller_by {O} {Q} P place caller round (Submit batch) h = All-nil (λ (q : Asked Q). P q.caller)
caller_by {O} {Q} P place caller round (Read query) h = All-cons (λ (q : Asked Q). P q.caller) _ [] h (All-nil (λ (q : Asked Q). P q.caller))

pub read_callers : {O Q : Type 0} (P : ℕ → Type 0) (rs : List (Record O Q)) → All (λ (r : Record O Q). P r.caller) rs → All (λ (q : Asked Q). P q.caller) (reads_of rs)
read_callers {O} {Q} P [] all = subst (All (λ (q : Asked Q). P q.caller)) (sym (reads_of-nil O Q)) (All-nil (λ (q : Asked Q). P q.caller))
read_callers {O} {Q} P (r ∷ rs) all =
    subst (All (λ (q : Asked Q). P q.caller)) (sym (reads_of-cons r rs))
    (All-append (λ (q : Asked Q). P q.caller) (read_by r.place r.caller r.round r.act) (reads_of rs)
    (caller_by P r.place r.caller r.round r.act (all 0 r (omega arith)))
    (read_callers P rs (λ k d h. all (suc k) d (omega (arith, h)))))

pub answered_callers : {O Q : Type 0} (callers : ℕ) (rs : List (Record O Q)) (reads : List (Answered Q)) → All (λ (r : Record O Q). r.caller < callers) rs → asked_in reads ≡ reads_of rs
    → All (λ (a : Answered Q). a.asked.caller < callers) reads
answered_callers {O} {Q} callers rs reads few asked =
    all_unmap (λ (a : Answered Q). a.asked) (λ (q : Asked Q). q.caller < callers) reads (subst (All (λ (q : Asked Q). q.caller < callers)) (sym asked) (read_callers (λ n. n < callers) rs few))
