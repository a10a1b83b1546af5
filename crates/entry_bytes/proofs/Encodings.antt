-- What is the encoding of a map has no fault, and is that of no other map.
use Rattle.std.proofs.Common.{◌≡◌, ℕ, ◌+◌, ◌-◌, ◌^◌, ◌<◌, ◌≤◌, ◌⊎◌, List, [], ◌∷◌, ◌++◌, length, get_or, sym, subst, ap, ◌∙◌, arith, inl, inr, append_assoc, append-nil, length-append}
use Rattle.std.proofs.lemmas.List.{append_cancel_left, take_all, get_or_append_left}
use Rattle.std.specs.Ordering.{nat_cmp}
use Rattle.map_model.specs.Entries.{IsIncreasing}
use Rattle.gap_code.specs.Code.{code, code_after, last_key}
use Rattle.gap_code.specs.Leb.{leb}
use Rattle.entry_bytes.specs.declared.fault.DecodeFault.{DecodeFault}
use Rattle.entry_bytes.specs.declared.fault.DecodeFault.TheVariants.{Short, Magic, Version, Kind, Number, Order, Trailing, Checksum, NoMemory}
use Rattle.entry_bytes.specs.Faults.{IsCut, NoNumber, IsNumberFault, IsHeaderFault, IsCrowded, IsCountFault, IsBegun, least_gap, IsEntryFault, IsEntriesFault, IsEndFault, IsChecksumFault, IsFirstFault}
use Rattle.entry_bytes.specs.Format.{IsMap, header, front, checksum, encoding}
use Rattle.entry_bytes.proofs.Codes.{leb_same, code_long, rising, followed, lawful_next, IsLawfulNext, FitEntries}
use Rattle.entry_bytes.proofs.Begun.{front_rest, header_long, checksum_long}

-- where a number stands, none is at fault
pub cut_not : (bs : List ℕ) (n : ℕ) (x : List ℕ) → bs ≡ leb n ++ x → IsCut bs → ⊥
cut_not bs n x is c =
    let whole : leb n ++ (x ++ c.missing) ≡ leb c.number ++ [] = sym (append_assoc (leb n) x c.missing) ∙ ap (λ (t : List ℕ). t ++ c.missing) (sym is) ∙ c.is ∙ sym (append-nil (leb c.number)) in
    let same = leb_same n c.number (x ++ c.missing) [] whole in
    omega (arith, c.some, length-append x c.missing, ap length same.others)

pub none_not : (bs : List ℕ) (n : ℕ) (x : List ℕ) → n < 2 ^ 64 → bs ≡ leb n ++ x → NoNumber bs → ⊥
none_not bs n x fits is none = none n [] x fits (append-nil bs ∙ is)

pub number_not : (fault : DecodeFault) (bs : List ℕ) (n : ℕ) (x : List ℕ) → n < 2 ^ 64 → bs ≡ leb n ++ x → IsNumberFault fault bs → ⊥
number_not Short bs n x fits is f = cut_not bs n x is f
number_not Number bs n x fits is f = none_not bs n x fits is f
number_not Magic bs n x fits is f = f
number_not Version bs n x fits is f = f
number_not Kind bs n x fits is f = f
number_not Order bs n x fits is f = f
number_not Trailing bs n x fits is f = f
number_not Checksum bs n x fits is f = f
number_not NoMemory bs n x fits is f = f

-- where the header stands, none of its bytes is at fault
pub header_not : (fault : DecodeFault) (bs rest : List ℕ) → bs ≡ header ++ rest → IsHeaderFault fault bs → ⊥
header_not fault bs rest is f =
    let long : 6 ≤ length bs = omega (arith, ap length is, length-append header rest, header_long) in
    let within : f.at < length header = omega (arith, header_long, f.within) in
    let same : get_or bs f.at 0 ≡ get_or header f.at 0 = ap (λ t. get_or t f.at 0) is ∙ get_or_append_left header rest 0 f.at within in
    elim f.next [ inl short ↦ omega (arith, short.0, f.within) | inr wrong ↦ wrong.1 same ]

-- where a lawful entry stands, none is at fault
pub entry_not : (fault : DecodeFault) (es : List (ℕ × ℕ)) (e : ℕ × ℕ) (bs x : List ℕ) → IsLawfulNext es 0 (least_gap es) e → bs ≡ leb (e.0 - last_key 0 es) ++ (leb e.1 ++ x) → IsEntryFault (last_key 0 es) (least_gap es) fault bs → ⊥
entry_not fault es e bs x lawful is (inl f) = number_not fault bs (e.0 - last_key 0 es) (leb e.1 ++ x) (omega (arith, lawful.key)) is f
entry_not fault es e bs x lawful is (inr f) =
    let same = leb_same f.gap (e.0 - last_key 0 es) f.others (leb e.1 ++ x) (sym f.is ∙ is) in
    behind f.next same.number same.others
  where
    behind : {gap : ℕ} {others : List ℕ} → (((gap < least_gap es) ⊎ (2 ^ 64 ≤ last_key 0 es + gap)) × (fault ≡ Order)) ⊎ ((least_gap es ≤ gap) × (last_key 0 es + gap < 2 ^ 64) × IsNumberFault fault others)
        → gap ≡ e.0 - last_key 0 es → others ≡ leb e.1 ++ x → ⊥
    behind (inl (inl little, _)) gap_is others_are = omega (arith, little, lawful.gap)
    behind (inl (inr great, _)) gap_is others_are = omega (arith, great, lawful.key, lawful.not_less)
    behind {gap} {others} (inr next) gap_is others_are = number_not fault others e.1 x lawful.val others_are next.2

-- the list whose code the bytes of a map begin with
pub record IsFrontOf (bs : List ℕ) (count : ℕ) (es : List (ℕ × ℕ)) (rest : List ℕ) (m : List (ℕ × ℕ)) : Type 0 where
  pub count_is : count ≡ length m
  pub more : List (ℕ × ℕ)
  pub list : m ≡ es ++ more
  pub rest_is : rest ≡ code_after leb (last_key 0 es) more ++ checksum (front (length m) m)

pub front_of : (bs : List ℕ) (count : ℕ) (es : List (ℕ × ℕ)) (rest : List ℕ) (m : List (ℕ × ℕ)) → IsBegun bs count es rest → IsIncreasing nat_cmp m → bs ≡ encoding m → IsFrontOf bs count es rest m
front_of bs count es rest m b rises is =
    let sum = checksum (front (length m) m) in
    let whole : header ++ (leb count ++ (code leb es ++ rest)) ≡ header ++ (leb (length m) ++ (code leb m ++ sum)) = sym (front_rest count es rest) ∙ sym b.is ∙ is ∙ front_rest (length m) m sum in
    let same = leb_same count (length m) (code leb es ++ rest) (code leb m ++ sum) (append_cancel_left header _ _ whole) in
    let f = followed es m 0 rest sum (rising es b.lawful.increasing) (rising m rises) (omega (arith, b.within, same.number)) same.others in
    record { count_is = same.number; more = f.more; list = f.list; rest_is = f.rest }

count_not : (fault : DecodeFault) (bs : List ℕ) (m : List (ℕ × ℕ)) → IsMap m → bs ≡ encoding m → IsCountFault fault bs → ⊥
count_not fault bs m map is f =
    let sum = checksum (front (length m) m) in
    let rest_is : f.rest ≡ leb (length m) ++ (code leb m ++ sum) = append_cancel_left header _ _ (sym f.is ∙ is ∙ front_rest (length m) m sum) in
    crowded f.next rest_is
  where
    crowded : {rest : List ℕ} → IsNumberFault fault rest ⊎ IsCrowded fault rest → rest ≡ leb (length m) ++ (code leb m ++ checksum (front (length m) m)) → ⊥
    crowded {rest} (inl bad) is = number_not fault rest (length m) _ map.counted is bad
    crowded (inr c) is =
        let same = leb_same c.count (length m) c.others (code leb m ++ checksum (front (length m) m)) (sym c.is ∙ is) in
        omega (arith, c.few, same.number, ap length same.others, length-append (code leb m) (checksum (front (length m) m)), code_long m 0, checksum_long (front (length m) m))

entries_not : (fault : DecodeFault) (bs : List ℕ) (m : List (ℕ × ℕ)) → IsMap m → bs ≡ encoding m → IsEntriesFault fault bs → ⊥
entries_not fault bs m map is f =
    let o = front_of bs f.count f.entries f.rest m f.begun map.increasing is in
    missing o.more o.list o.rest_is (omega (arith, f.left, o.count_is))
  where
    missing : (more : List (ℕ × ℕ)) → m ≡ f.entries ++ more → f.rest ≡ code_after leb (last_key 0 f.entries) more ++ checksum (front (length m) m) → length f.entries < length m → ⊥
    missing [] list rest left = omega (arith, ap length list, length-append f.entries [])
    missing (e ∷ more) list rest left =
        let lawful = lawful_next f.entries more e (subst (λ t. IsIncreasing nat_cmp t) list map.increasing) (subst (λ t. FitEntries t) list map.fits) in
        entry_not fault f.entries e f.rest (code_after leb e.0 more ++ checksum (front (length m) m)) lawful
        (rest ∙ append_assoc (leb (e.0 - last_key 0 f.entries)) (leb e.1 ++ code_after leb e.0 more) _ ∙ ap (λ t. leb (e.0 - last_key 0 f.entries) ++ t) (append_assoc (leb e.1) (code_after leb e.0 more) _)) f.next

-- the checksum stands behind the entries
end_not : (fault : DecodeFault) (before bs : List ℕ) → bs ≡ checksum before → IsEndFault fault before bs → ⊥
end_not fault before bs is f =
    let long : length bs ≡ 4 = ap length is ∙ checksum_long before in
    elim f [
      | inl short ↦ omega (arith, short.0)
      | inr (inl wrong) ↦ wrong.1 (take_all 4 bs (omega arith) ∙ is)
      | inr (inr more) ↦ omega (arith, more.0)
    ]

checksum_not : (fault : DecodeFault) (bs : List ℕ) (m : List (ℕ × ℕ)) → IsMap m → bs ≡ encoding m → IsChecksumFault fault bs → ⊥
checksum_not fault bs m map is f =
    let o = front_of bs (length f.entries) f.entries f.rest m f.begun map.increasing is in
    all o.more o.list o.rest_is o.count_is
  where
    all : (more : List (ℕ × ℕ)) → m ≡ f.entries ++ more → f.rest ≡ code_after leb (last_key 0 f.entries) more ++ checksum (front (length m) m) → length f.entries ≡ length m → ⊥
    all [] list rest count = let same : m ≡ f.entries = list ∙ append-nil f.entries in end_not fault (front (length f.entries) f.entries) f.rest (rest ∙ ap (λ t. checksum (front (length t) t)) same) f.next
    all (e ∷ more) list rest count = omega (arith, ap length list, length-append f.entries (e ∷ more))

-- the laws
pub no_fault : (fault : DecodeFault) (bs : List ℕ) (m : List (ℕ × ℕ)) → IsMap m → bs ≡ encoding m → IsFirstFault fault bs → ⊥
no_fault fault bs m map is (inl f) = header_not fault bs _ (is ∙ front_rest (length m) m (checksum (front (length m) m))) f
no_fault fault bs m map is (inr (inl f)) = count_not fault bs m map is f
no_fault fault bs m map is (inr (inr (inl f))) = entries_not fault bs m map is f
no_fault fault bs m map is (inr (inr (inr f))) = checksum_not fault bs m map is f

pub one_map : (m n : List (ℕ × ℕ)) → IsIncreasing nat_cmp m → IsIncreasing nat_cmp n → encoding m ≡ encoding n → m ≡ n
one_map m n rises also is =
    let m_sum = checksum (front (length m) m) in
    let n_sum = checksum (front (length n) n) in
    let whole : header ++ (leb (length m) ++ (code leb m ++ m_sum)) ≡ header ++ (leb (length n) ++ (code leb n ++ n_sum)) = sym (front_rest (length m) m m_sum) ∙ is ∙ front_rest (length n) n n_sum in
    let same = leb_same (length m) (length n) (code leb m ++ m_sum) (code leb n ++ n_sum) (append_cancel_left header _ _ whole) in
    let f = followed m n 0 m_sum n_sum (rising m rises) (rising n also) (omega (arith, same.number)) same.others in
    none f.more f.list same.number
  where
    none : (more : List (ℕ × ℕ)) → n ≡ m ++ more → length m ≡ length n → m ≡ n
    none [] list count = sym (list ∙ append-nil m)
    none (e ∷ more) list count = absurd (omega (arith, ap length list, length-append m (e ∷ more)))

-- what is refused though it is the encoding of a map was refused for want of memory
pub memory_alone : (fault : DecodeFault) (bs : List ℕ) → (fault ≡ NoMemory) ⊎ IsFirstFault fault bs → (m : List (ℕ × ℕ)) → IsMap m → bs ≡ encoding m → fault ≡ NoMemory
memory_alone fault bs (inl memory) m map is = memory
memory_alone fault bs (inr f) m map is = absurd (no_fault fault bs m map is f)

pub reads_fault : (fault : DecodeFault) (bs : List ℕ) → (fault ≡ NoMemory) ⊎ IsEntriesFault fault bs → (fault ≡ NoMemory) ⊎ IsFirstFault fault bs
reads_fault fault bs (inl memory) = inl memory
reads_fault fault bs (inr f) = inr (inr (inr (inl f)))
