-- What is left of a list behind a place.
use Rattle.std.proofs.Common.{◌≡◌, ℕ, ◌+◌, ◌-◌, ◌<◌, ◌≤◌, drop, Some, List, [], ◌∷◌, ◌++◌, length, sym, ◌∙◌, ap, zero, suc, refl, subst, arith}
use Rattle.std.proofs.lemmas.List.{drop_all, drop_more}
use Rattle.std.proofs.lemmas.Option.{slice_get_within, get_or_from_slice_get}
use Rattle.std.specs.List.{slice_get}
use Rattle.std.proofs.Common.{Result, IfOk}
use Rattle.std.proofs.lemmas.Result.{IfOk-weaker}
use Rattle.tree_walk.specs.Shares.{Takes}

-- an entry at a place, and what is left there
pub drop_here : {E : Type 0} → (es : List E) (i : ℕ) (e : E) → slice_get es i ≡ Some e → drop i es ≡ e ∷ drop (i + 1) es
drop_here es i e is = drop_more es i e (slice_get_within es i e is) ∙ ap (λ x. x ∷ drop (i + 1) es) (get_or_from_slice_get es i e e is)

-- there is an entry at a place within
pub entry_here : {E : Type 0} → (es : List E) (i : ℕ) → i < length es → (e : E) × (drop i es ≡ e ∷ drop (i + 1) es)
entry_here [] i h = absurd (omega arith)
entry_here (x ∷ es) zero h = (x, refl)
entry_here (x ∷ es) (suc i) h =
    let next = entry_here es i (omega arith) in
    let on : suc i + 1 ≡ suc (i + 1) = omega arith in
    (next.0, subst (λ n. drop i es ≡ next.0 ∷ drop n (x ∷ es)) (sym on) next.1)

-- what a place reads is what is left there first
pub takes_read : {E R : Type 0} → (es : List E) (i : ℕ) (item : Result E R) → i < length es → IfOk item (λ e. slice_get es i ≡ Some e) → Takes es i item
takes_read {E} es i item within reads =
    let found = entry_here es i within in
    (found.0, found.1, IfOk-weaker item (λ e. slice_get es i ≡ Some e) (λ e. e ≡ found.0) (λ e is. ap (λ l. head_or l e) (sym (drop_here es i e is) ∙ found.1)) reads)
  where
    head_or : {E : Type 0} → List E → E → E
    head_or [] d = d
    head_or (x ∷ xs) d = x

-- the entries behind a leaf's place, where those that are left begin with what is left of the leaf
pub left_behind : {E : Type 0} → (es block rest : List E) (i j : ℕ) (e : E) → drop i es ≡ drop j block ++ rest → drop j block ≡ e ∷ drop (j + 1) block → i < length es → (drop i es ≡ e ∷ drop (i + 1) es) × (drop (i + 1) es ≡ drop (j + 1) block ++ rest)
left_behind es block rest i j e is here within =
    let found = entry_here es i within in
    let both : found.0 ∷ drop (i + 1) es ≡ e ∷ (drop (j + 1) block ++ rest) = sym found.1 ∙ is ∙ ap (λ l. l ++ rest) here in
    let same : found.0 ≡ e = ap (λ l. head_or l e) both in
    let behind : drop (i + 1) es ≡ drop (j + 1) block ++ rest = ap tail_of both in
    (found.1 ∙ ap (λ x. x ∷ drop (i + 1) es) same, behind)
  where
    head_or : {E : Type 0} → List E → E → E
    head_or [] d = d
    head_or (x ∷ xs) d = x

    tail_of : {E : Type 0} → List E → List E
    tail_of [] = []
    tail_of (x ∷ xs) = xs

-- the same for the item that is taken there
pub takes_behind : {E R : Type 0} → (es block rest : List E) (i j : ℕ) (item : Result E R) → drop i es ≡ drop j block ++ rest → i < length es → Takes block j item → Takes es i item × (drop (i + 1) es ≡ drop (j + 1) block ++ rest)
takes_behind es block rest i j item is within takes =
    let both = left_behind es block rest i j takes.0 is takes.1 within in
    ((takes.0, both.0, takes.2), both.1)

-- the first of the entries that are left is taken
pub takes_first : {E R : Type 0} → (es rest : List E) (i : ℕ) (e : E) (item : Result E R) → drop i es ≡ e ∷ rest → i < length es → IfOk item (λ share. share ≡ e) → Takes es i item
takes_first {E} es rest i e item is within shares =
    let found = entry_here es i within in
    (e, is ∙ ap (λ l. e ∷ l) (ap tail_of (sym is ∙ found.1)), shares)
  where
    tail_of : {E : Type 0} → List E → List E
    tail_of [] = []
    tail_of (x ∷ xs) = xs

-- a list that goes on behind another, from a place in it
pub drop_behind : {E : Type 0} → (front : List E) (e : E) (back : List E) (i : ℕ) → length front < i → drop i (front ++ e ∷ back) ≡ drop (i - length front - 1) back
drop_behind [] e back zero h = absurd (omega arith)
drop_behind [] e back (suc i) h = let is : suc i - 0 - 1 ≡ i = omega arith in ap (λ n. drop n back) (sym is)
drop_behind (x ∷ front) e back zero h = absurd (omega arith)
drop_behind (x ∷ front) e back (suc i) h =
    let is : suc i - length (x ∷ front) - 1 ≡ i - length front - 1 = omega arith in
    drop_behind front e back i (omega arith) ∙ ap (λ n. drop n back) (sym is)

-- the same for the entry that follows a leaf's last
pub takes_following : {E R : Type 0} → (es block rest : List E) (i j : ℕ) (e : E) (item : Result E R) → drop i es ≡ drop j block ++ e ∷ rest → length block ≤ j → i < length es → IfOk item (λ share. share ≡ e) → Takes es i item
takes_following es block rest i j e item is past within shares =
    takes_first es rest i e item (is ∙ ap (λ l. l ++ e ∷ rest) (drop_all j block past)) within shares

-- what begins at a place, and what is left behind it
pub left_after : {E : Type 0} → (es rest : List E) (i : ℕ) (e : E) → drop i es ≡ e ∷ rest → i < length es → (drop i es ≡ e ∷ drop (i + 1) es) × (drop (i + 1) es ≡ rest)
left_after {E} es rest i e is within =
    let found = entry_here es i within in
    let behind : drop (i + 1) es ≡ rest = ap tail_of (sym found.1 ∙ is) in
    (is ∙ ap (λ l. e ∷ l) (sym behind), behind)
  where
    tail_of : {E : Type 0} → List E → List E
    tail_of [] = []
    tail_of (x ∷ xs) = xs
