-- Fronts of what stands behind a place.
use Rattle.std.proofs.Common.{◌≡◌, ℕ, zero, suc, ◌+◌, ◌<◌, List, [], ◌∷◌, ◌++◌, length, drop, Some, refl, sym, ap, ◌∙◌, arith, append_assoc}
use Rattle.std.specs.List.{slice_get}
use Rattle.std.proofs.Math.Seq.{drop-append_seam, drop-append-add}
use Rattle.pac_seq.specs.Seats.{IsFront}

pub front_of : {E : Type 0} (front back whole : List E) → 0 < length front → whole ≡ front ++ back → IsFront front whole
front_of front back whole some is =
    let rest : drop (length front) whole ≡ back = ap (drop (length front)) is ∙ drop-append_seam front back in
    record { some = some; begins = is ∙ ap (λ x. front ++ x) (sym rest) }

-- a front of a list is one of the list and more
pub front-longer : {E : Type 0} (front a b : List E) → IsFront front a → IsFront front (a ++ b)
front-longer front a b is =
    front_of front (drop (length front) a ++ b) (a ++ b) is.some (ap (λ x. x ++ b) is.begins ∙ append_assoc front (drop (length front) a) b)

pub get_first : {E : Type 0} (es : List E) (i : ℕ) (x : E) (t : List E) → drop i es ≡ x ∷ t → slice_get es i ≡ Some x
get_first [] zero x t is = cc
get_first [] (suc i) x t is = cc
get_first (y ∷ es) zero x t is = cc
get_first (y ∷ es) (suc i) x t is = get_first es i x t is

-- what begins at a place of a part begins at a place of the whole
abbrev pub Leads : {E : Type 0} → List E → ℕ → List E → ℕ → Type 0
Leads part i whole j = (front : List _) → IsFront front (drop i part) → IsFront front (drop j whole)

pub leads-here : {E : Type 0} (part left : List E) (e : E) (right : List E) (i : ℕ) (whole : List E) (j : ℕ) → part ≡ left ++ e ∷ right → i ≡ length left → Leads part i whole j → IsFront (e ∷ []) (drop j whole)
leads-here part left e right i whole j is here leads =
    leads (e ∷ []) (rw (is, here, drop-append_seam left (e ∷ right)) (front_of (e ∷ []) right (e ∷ right) (omega arith) refl))

pub leads-right : {E : Type 0} (part left : List E) (e : E) (right : List E) (i n : ℕ) (whole : List E) (j : ℕ) → part ≡ left ++ e ∷ right → i ≡ length left + suc n → Leads part i whole j → Leads right n whole j
leads-right part left e right i n whole j is past leads =
    λ front begins. leads front (rw (is, past, drop-append-add left (e ∷ right) (suc n)) begins)
