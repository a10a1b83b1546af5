-- The code of entries, entry by entry.
use Rattle.std.proofs.Common.{◌≡◌, ℕ, ◌+◌, ◌-◌, ◌*◌, ◌^◌, ◌<◌, ◌≤◌, List, [], ◌∷◌, ◌++◌, length, refl, sym, subst, ap, ap₂, ◌∙◌, arith, append_assoc, append-nil, length-append}
use Rattle.std.proofs.lemmas.List.{append_cancel_left}
use Rattle.std.specs.List.{AllByRecursion}
use Rattle.std.specs.Ordering.{nat_cmp}
use Rattle.map_model.specs.Entries.{AllAbove, AllKeys, IsIncreasing}
use Rattle.map_model.proofs.NatKeys.{lt_from_less, less-nat_cmp}
use Rattle.map_model.proofs.Keys.{IsIncreasing-append}
use Rattle.gap_code.specs.Code.{code_after, last_key}
use Rattle.gap_code.specs.Leb.{leb, number_of}
use Rattle.gap_code.specs.LebLaws.{number_of-leb, leb_some}
use Rattle.entry_bytes.specs.Faults.{least_gap}

-- of two numbers the bytes of neither begin those of the other
pub record AreSame (n k : ℕ) (x y : List ℕ) : Type 0 where
  pub number : n ≡ k
  pub others : x ≡ y

pub leb_same : (n k : ℕ) (x y : List ℕ) → leb n ++ x ≡ leb k ++ y → AreSame n k x y
leb_same n k x y is =
    let number : n ≡ k = sym (number_of-leb n x) ∙ ap number_of is ∙ number_of-leb k y in
    record { number = number; others = append_cancel_left (leb n) x y (is ∙ ap (λ m. leb m ++ y) (sym number)) }

-- one more entry
pub code-push : (es : List (ℕ × ℕ)) (before key val : ℕ) → code_after leb before (es ++ (key, val) ∷ []) ≡ code_after leb before es ++ (leb (key - last_key before es) ++ leb val)
code-push [] before key val = ap (λ t. leb (key - before) ++ t) (append-nil (leb val))
code-push (e ∷ es) before key val = ap (λ t. leb (e.0 - before) ++ (leb e.1 ++ t)) (code-push es e.0 key val) ∙ simp append_assoc

pub last_key-push : (es : List (ℕ × ℕ)) (before key val : ℕ) → last_key before (es ++ (key, val) ∷ []) ≡ key
last_key-push [] before key val = refl
last_key-push (e ∷ es) before key val = last_key-push es e.0 key val

-- an entry takes two bytes at least
pub code_long : (es : List (ℕ × ℕ)) (before : ℕ) → 2 * length es ≤ length (code_after leb before es)
code_long [] before = omega arith
code_long (e ∷ es) before =
    omega (arith, length-append (leb (e.0 - before)) (leb e.1 ++ code_after leb e.0 es), length-append (leb e.1) (code_after leb e.0 es), leb_some (e.0 - before), leb_some e.1, code_long es e.0)

-- the last key is none less than the first
last_above : (key : ℕ) (es : List (ℕ × ℕ)) → AllAbove nat_cmp es key → IsIncreasing nat_cmp es → key ≤ last_key key es
last_above key [] a s = omega arith
last_above key (e ∷ es) a s = omega (arith, lt_from_less key e.0 a.0, last_above e.0 es s.0 s.1)

keys_below : (es : List (ℕ × ℕ)) (before key val : ℕ) → IsIncreasing nat_cmp es → last_key before es < key → AllKeys (λ a. AllAbove nat_cmp ((key, val) ∷ []) a) es
keys_below [] before key val s less = tt
keys_below (e ∷ es) before key val s less = ((less-nat_cmp e.0 key (omega (arith, last_above e.0 es s.0 s.1)), tt), keys_below es e.0 key val s.1 less)

pub increasing-push : (es : List (ℕ × ℕ)) (gap key val : ℕ) → IsIncreasing nat_cmp es → least_gap es ≤ gap → key ≡ last_key 0 es + gap → IsIncreasing nat_cmp (es ++ (key, val) ∷ [])
increasing-push [] gap key val s enough is = (tt, tt)
increasing-push (e ∷ es) gap key val s enough is =
    IsIncreasing-append nat_cmp (e ∷ es) ((key, val) ∷ []) s (tt, tt) (keys_below (e ∷ es) 0 key val s (omega arith))

abbrev pub FitEntries : List (ℕ × ℕ) → Type 0
FitEntries es = AllByRecursion (λ e. (e.0 < 2 ^ 64) × (e.1 < 2 ^ 64)) es

pub fits-push : (es : List (ℕ × ℕ)) (key val : ℕ) → FitEntries es → key < 2 ^ 64 → val < 2 ^ 64 → FitEntries (es ++ (key, val) ∷ [])
fits-push [] key val f k v = ((k, v), tt)
fits-push (e ∷ es) key val f k v = (f.0, fits-push es key val f.1 k v)

-- the entry behind some others
pub record IsLawfulNext (es : List (ℕ × ℕ)) (before least : ℕ) (e : ℕ × ℕ) : Type 0 where
  pub not_less : last_key before es ≤ e.0
  pub gap : least ≤ e.0 - last_key before es
  pub key : e.0 < 2 ^ 64
  pub val : e.1 < 2 ^ 64

next_after : (es more : List (ℕ × ℕ)) (before : ℕ) (e : ℕ × ℕ) → AllAbove nat_cmp (es ++ e ∷ more) before → IsIncreasing nat_cmp (es ++ e ∷ more) → FitEntries (es ++ e ∷ more) → IsLawfulNext es before 1 e
next_after [] more before e a s f =
    let less = lt_from_less before e.0 a.0 in
    record { not_less = omega arith; gap = omega arith; key = f.0.0; val = f.0.1 }
next_after (d ∷ es) more before e a s f =
    let n = next_after es more d.0 e s.0 s.1 f.1 in
    record { not_less = n.not_less; gap = n.gap; key = n.key; val = n.val }

pub lawful_next : (es more : List (ℕ × ℕ)) (e : ℕ × ℕ) → IsIncreasing nat_cmp (es ++ e ∷ more) → FitEntries (es ++ e ∷ more) → IsLawfulNext es 0 (least_gap es) e
lawful_next [] more e s f = record { not_less = omega arith; gap = omega arith; key = f.0.0; val = f.0.1 }
lawful_next (d ∷ es) more e s f =
    let n = next_after es more d.0 e s.0 s.1 f.1 in
    record { not_less = n.not_less; gap = n.gap; key = n.key; val = n.val }

-- keys that don't fall, and are none of them less than this
abbrev pub DoNotFall : ℕ → List (ℕ × ℕ) → Type 0
DoNotFall least [] = Unit {0}
DoNotFall least (e ∷ es) = (least ≤ e.0) × DoNotFall e.0 es

rising_from : (key : ℕ) (es : List (ℕ × ℕ)) → AllAbove nat_cmp es key → IsIncreasing nat_cmp es → DoNotFall key es
rising_from key [] a s = tt
rising_from key (e ∷ es) a s = (omega (arith, lt_from_less key e.0 a.0), rising_from e.0 es s.0 s.1)

pub rising : (es : List (ℕ × ℕ)) → IsIncreasing nat_cmp es → DoNotFall 0 es
rising [] s = tt
rising (e ∷ es) s = (omega arith, rising_from e.0 es s.0 s.1)

-- of two codes the longer list goes on where the shorter ends
pub record IsFollowed (before : ℕ) (es m : List (ℕ × ℕ)) (x y : List ℕ) : Type 0 where
  pub more : List (ℕ × ℕ)
  pub list : m ≡ es ++ more
  pub rest : x ≡ code_after leb (last_key before es) more ++ y

same_gap : (before e f : ℕ) → before ≤ e → before ≤ f → e - before ≡ f - before → e ≡ f
same_gap before e f a b is = omega arith

pub followed : (es m : List (ℕ × ℕ)) (before : ℕ) (x y : List ℕ) → DoNotFall before es → DoNotFall before m → length es ≤ length m → code_after leb before es ++ x ≡ code_after leb before m ++ y → IsFollowed before es m x y
followed [] m before x y a b h is = record { more = m; list = refl; rest = is }
followed (e ∷ es) [] before x y a b h is = absurd (omega arith)
followed (e ∷ es) (f ∷ m) before x y a b h is =
    let es_bytes = code_after leb e.0 es in
    let m_bytes = code_after leb f.0 m in
    let whole : leb (e.0 - before) ++ (leb e.1 ++ (es_bytes ++ x)) ≡ leb (f.0 - before) ++ (leb f.1 ++ (m_bytes ++ y)) = regroup (leb (e.0 - before)) (leb e.1) es_bytes x ∙ is ∙ sym (regroup (leb (f.0 - before)) (leb f.1) m_bytes y) in
    let gaps = leb_same (e.0 - before) (f.0 - before) (leb e.1 ++ (es_bytes ++ x)) (leb f.1 ++ (m_bytes ++ y)) whole in
    let vals = leb_same e.1 f.1 (es_bytes ++ x) (m_bytes ++ y) gaps.others in
    let key : f.0 ≡ e.0 = same_gap before f.0 e.0 b.0 a.0 (sym gaps.number) in
    let entry : f ≡ e = ap₂ (λ k v. let p : ℕ × ℕ = (k, v) in p) key (sym vals.number) in
    let falls : DoNotFall e.0 m = subst (λ (k : ℕ). DoNotFall k m) key b.1 in
    let rest = followed es m e.0 x y a.1 falls (omega arith) (vals.others ∙ ap (λ k. code_after leb k m ++ y) key) in
    record { more = rest.more; list = ap₂ (λ d t. d ∷ t) entry rest.list; rest = rest.rest }
  where
    regroup : (a b c d : List ℕ) → a ++ (b ++ (c ++ d)) ≡ (a ++ (b ++ c)) ++ d
    regroup a b c d = sym (append_assoc a (b ++ c) d ∙ ap (λ t. a ++ t) (append_assoc b c d))
